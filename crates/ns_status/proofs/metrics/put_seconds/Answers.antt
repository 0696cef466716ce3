use Rattle.std.proofs.Common.{append_assoc}
use Rattle.ns_status.specs.Metrics.{seconds_text}
use Rattle.ns_status.proofs.metrics.put_seconds.Goals as goal

pub returns : goal.returns
unfolding seconds_text
returns c =
    simp append_assoc (rw (c.format.ensures.text, c.format-2.ensures.text, c.format-3.ensures.text, c.format-4.ensures.text) at c.put_parts.ensures)
