use Rattle.ns_status.specs.Metrics.{histogram_text}
use Rattle.ns_status.proofs.StepLemmas.{put_more, put_last}
use Rattle.std.proofs.Common.{append_assoc}
use Rattle.ns_status.proofs.metrics.put_histogram.Goals as goal

pub returns : goal.returns
unfolding histogram_text
returns c =
    put_last c.put_line.result _ _ _ _ _
    (put_more _ _ _ _ _ (put_more _ _ _ _ _ c.in_ok-put_family.ensures c.in_ok-put_samples.ensures) c.in_ok-put_seconds.ensures)
    (rw c.format.ensures.text at c.put_line.ensures)
