use Rattle.ns_calls.proofs.JoinLemmas.{nonces_rise}
use Rattle.ns_calls.proofs.laws.nonces_rise.Goals as goal

pub returns : goal.returns
returns c = nonces_rise
