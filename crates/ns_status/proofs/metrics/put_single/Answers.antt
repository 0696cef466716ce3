use Rattle.ns_status.specs.Metrics.{single_text}
use Rattle.ns_status.proofs.StepLemmas.{put_last}
use Rattle.ns_status.proofs.metrics.put_single.Goals as goal

pub returns : goal.returns
unfolding single_text
returns c = put_last c.put_line.result _ _ _ _ _ c.in_ok-put_family.ensures (rw c.format.ensures.text at c.put_line.ensures)
