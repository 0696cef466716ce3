use Rattle.ns_calls.proofs.AckLemmas.{acks_rise}
use Rattle.ns_calls.proofs.laws.acks_rise.Goals as goal

pub returns : goal.returns
returns c = acks_rise
