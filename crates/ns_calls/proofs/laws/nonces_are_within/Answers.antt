use Rattle.ns_calls.proofs.JoinLemmas.{nonces_within}
use Rattle.ns_calls.proofs.laws.nonces_are_within.Goals as goal

pub returns : goal.returns
returns c = nonces_within
