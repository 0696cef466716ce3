use Rattle.ns_calls.proofs.RoundLemmas.{rounds_are_counted}
use Rattle.ns_calls.proofs.laws.rounds_are_counted.Goals as goal

pub returns : goal.returns
returns c = rounds_are_counted
