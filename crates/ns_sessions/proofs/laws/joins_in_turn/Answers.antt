use Rattle.ns_sessions.proofs.RunLemmas.{joins_in_turn}
use Rattle.ns_sessions.proofs.laws.joins_in_turn.Goals as goal

pub returns : goal.returns
returns c = λ last calls. joins_in_turn last calls
