use Rattle.std.proofs.Common.{append_assoc}
use Rattle.ns_status.specs.Metrics.{line_text}
use Rattle.ns_status.proofs.metrics.put_line.Goals as goal

pub returns : goal.returns
unfolding line_text
returns c = simp append_assoc c.put_parts.ensures
