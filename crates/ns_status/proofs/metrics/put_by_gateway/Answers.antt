use Rattle.std.proofs.Common.{refl}
use Rattle.ns_status.specs.Metrics.{by_gateway_text}
use Rattle.ns_status.proofs.StepLemmas.{put_more}
use Rattle.ns_status.proofs.metrics.put_by_gateway.Goals as goal

pub loop-sample-init : goal.loop-sample-init
unfolding by_gateway_text
loop-sample-init c = put_more _ _ _ _ _ c.in_ok-put_family.ensures refl
