use Rattle.ns_status.specs.Metrics.{family_text}
use Rattle.ns_status.proofs.StepLemmas.{put_last}
use Rattle.ns_status.proofs.metrics.put_family.Goals as goal

pub returns : goal.returns
unfolding family_text
returns c = put_last c.put_line-2.result _ _ _ _ _ c.in_ok-put_line.ensures (rw c.word.ensures at c.put_line-2.ensures)
