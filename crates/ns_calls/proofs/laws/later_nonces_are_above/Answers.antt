use Rattle.ns_calls.proofs.JoinLemmas.{later_above}
use Rattle.ns_calls.proofs.laws.later_nonces_are_above.Goals as goal

pub returns : goal.returns
returns c = later_above
