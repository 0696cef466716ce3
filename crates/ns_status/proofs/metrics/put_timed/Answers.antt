use Rattle.ns_status.specs.Metrics.{timed_text}
use Rattle.ns_status.proofs.StepLemmas.{put_last}
use Rattle.ns_status.proofs.metrics.put_timed.Goals as goal

pub returns : goal.returns
unfolding timed_text
returns c = put_last c.put_seconds.result _ _ _ _ _ c.in_ok-put_family.ensures c.put_seconds.ensures
