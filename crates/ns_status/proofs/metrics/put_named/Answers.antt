use Rattle.ns_status.specs.Metrics.{named_family}
use Rattle.ns_status.proofs.StepLemmas.{put_last}
use Rattle.ns_status.proofs.metrics.put_named.Goals as goal

pub returns : goal.returns
unfolding named_family
returns c = put_last c.put_samples.result _ _ _ _ _ c.in_ok-put_family.ensures c.put_samples.ensures
