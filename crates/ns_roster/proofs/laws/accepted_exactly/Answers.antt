use Rattle.ns_roster.proofs.SpelledLemmas.{accepted-from_spelled, spelled-from_accepted}
use Rattle.ns_roster.proofs.laws.accepted_exactly.Goals as goal

pub returns : goal.returns
returns c = λ bytes net. (spelled-from_accepted bytes net, accepted-from_spelled bytes net)
