use Rattle.ns_status.proofs.StepLemmas.{put_more, put_last}
use Rattle.ns_status.proofs.MetricsLemmas.{metrics_text-families}
use Rattle.ns_status.proofs.metrics.put_metrics.Goals as goal

pub returns : goal.returns
returns c =
    rw metrics_text-families (put_last c.put_numbered.result _ _ _ _ _ (put_more _ _ _ _ _ (put_more _ _ _ _ _ c.in_ok-put_totals.ensures c.in_ok-put_named.ensures) c.in_ok-put_named-2.ensures) c.put_numbered.ensures)
