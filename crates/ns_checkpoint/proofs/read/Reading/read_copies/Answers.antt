use Rattle.ns_checkpoint.specs.Text.{copy_line}
use Rattle.ns_checkpoint.proofs.ReadLines.{read-one-more}
use Rattle.ns_checkpoint.proofs.read.Reading.read_copies.Goals as goal

pub copies-preserved : goal.copies-preserved
copies-preserved g c = read-one-more copy_line _ _ _ _ _ _ _ _ _ _ c.copies.invariant c.in_ok-begins_with.ensures c.in_ok-read_copy.ensures c.push.ensures.items
