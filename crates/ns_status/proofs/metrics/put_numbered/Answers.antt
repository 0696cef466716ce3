use Rattle.std.proofs.Common.{refl}
use Rattle.ns_status.specs.Metrics.{numbered_family}
use Rattle.ns_status.proofs.StepLemmas.{put_more}
use Rattle.ns_status.proofs.metrics.put_numbered.Goals as goal

pub loop-place-init : goal.loop-place-init
unfolding numbered_family
loop-place-init c = put_more _ _ _ _ _ c.in_ok-put_family.ensures refl
