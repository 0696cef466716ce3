use Rattle.std.proofs.Common.{◌≡◌, ◌%◌, false, sym, ap, ◌∙◌, rules}
use Rattle.std.proofs.lemmas.List.{get_or_default}
use Rattle.ns_front.specs.Late.{row_at}
use Rattle.ns_front.specs.Private.Marks.{has_mark, marks_at, no_marks}
use Rattle.ns_front.proofs.MarkLemmas.{unmarked}
use Rattle.ns_front.proofs.late.Late.due.Goals as goal

pub returns-else-has : goal.returns-else-has
returns-else-has c =
    let late = c.args.self.now in
    let mic = c.args.frame.mic in
    let at = mic % 1024 in
    let marks : c.index.result.now ≡ marks_at late.marks.items at = c.index.ensures ∙ get_or_default late.marks.items at c.index.result.now no_marks (search rules) in
    let apart : has_mark mic (marks_at late.marks.items at) ≡ false = ap (has_mark mic) (sym marks) ∙ (sym c.has.ensures ∙ c.if-has.false) in
    sym (unmarked c.args.frame (marks_at late.marks.items at) (row_at late.rows.items at) (late.told at) apart)
