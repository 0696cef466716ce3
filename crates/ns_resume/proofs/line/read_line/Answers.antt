use Rattle.std.proofs.Common.{Some, ap, ◌∙◌}
use Rattle.ns_resume.proofs.Lines.{no_feed_more, line_read, part_more, all_read}
use Rattle.ns_resume.proofs.line.read_line.Goals as goal

pub returns-in-Some : goal.returns-in-Some
returns-in-Some g c =
    let so = c.parts.invariant in
    let next = c.in_ok-is_whole.ensures in
    let is = c.in-Some.is in
    record {
      bytes = line_read _ _ _ _ _ _ so.0 so.1 next _ is;
      feed = no_feed_more _ _ _ _ _ _ so.0 so.1 next;
      ended = λ torn. all_read _ _ _ _ _ _ so.0 so.1 next (is ∙ ap Some torn);
    }

pub parts-preserved : goal.parts-preserved
parts-preserved g c = part_more _ _ _ _ _ _ c.parts.invariant.0 c.parts.invariant.1 c.in_ok-is_whole.ensures c.in_default.is
