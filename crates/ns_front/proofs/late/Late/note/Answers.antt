use Rattle.std.proofs.Common.{◌≡◌, ◌<◌, ◌%◌, length, slice_set, sym, ap, subst, ◌∙◌, rules}
use Rattle.std.proofs.lemmas.List.{get_or_default}
use Rattle.ns_front.specs.declared.late.Closing.{Closing}
use Rattle.ns_front.specs.Late.{row_at, with_closing}
use Rattle.ns_front.specs.Private.Marks.{with_mark, marks_at, no_marks, AreMarked}
use Rattle.ns_front.proofs.MarkLemmas.{marked_set}
use Rattle.ns_front.proofs.late.Late.note.Goals as goal

pub invariant_of-self-clause-told : goal.invariant_of-self-clause-told
invariant_of-self-clause-told c =
    let late = c.args.self.now in
    let mic = c.args.frame.mic in
    let at = mic % 1024 in
    let closing : Closing = record { frame = c.args.frame; due = c.args.due } in
    let in_marks : at < length late.marks.items = search rules in
    let in_rows : at < length late.rows.items = search rules in
    let marks : c.with-marks.result ≡ with_mark mic (marks_at late.marks.items at) =
    c.with-marks.ensures ∙ ap (with_mark mic) (c.index.ensures ∙ get_or_default late.marks.items at c.index.result.now no_marks in_marks) in
    let row : c.with-row.result ≡ with_closing closing (row_at late.rows.items at) = c.with-row.ensures ∙ ap (with_closing closing) c.row.ensures in
    subst (λ m. AreMarked (slice_set late.marks.items at m) (slice_set late.rows.items at c.with-row.result)) (sym marks)
    (subst (λ r. AreMarked (slice_set late.marks.items at (with_mark mic (marks_at late.marks.items at))) (slice_set late.rows.items at r)) (sym row)
    (marked_set closing late.marks.items late.rows.items at in_marks in_rows late.told))
