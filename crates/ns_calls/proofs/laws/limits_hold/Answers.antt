use Rattle.ns_calls.proofs.LimitLemmas.{limits}
use Rattle.ns_calls.proofs.laws.limits_hold.Goals as goal

pub returns : goal.returns
returns c = limits
