use Rattle.std.proofs.Common.{refl}
use Rattle.ns_status.specs.Metrics.{timed_by_gateway_text}
use Rattle.ns_status.proofs.StepLemmas.{put_more}
use Rattle.ns_status.proofs.metrics.put_timed_by_gateway.Goals as goal

pub loop-sample-init : goal.loop-sample-init
unfolding timed_by_gateway_text
loop-sample-init c = put_more _ _ _ _ _ c.in_ok-put_family.ensures refl
