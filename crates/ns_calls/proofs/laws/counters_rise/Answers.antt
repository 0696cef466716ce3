use Rattle.ns_calls.proofs.UplinkLemmas.{counters_rise}
use Rattle.ns_calls.proofs.laws.counters_rise.Goals as goal

pub returns : goal.returns
returns c = counters_rise
