use Rattle.ns_status.proofs.StepLemmas.{put_as}
use Rattle.ns_status.proofs.MetricsLemmas.{labelled_text-parts}
use Rattle.ns_status.proofs.metrics.put_labelled.Goals as goal

pub returns : goal.returns
returns c =
    put_as c.put_parts.result _ _ _ _ (labelled_text-parts c.args.name.now c.args.label.now c.args.of.now c.args.value)
    (rw c.format.ensures.text at c.put_parts.ensures)
