-- Frames that stand in a row, by the MICs of the row.
use Rattle.std.proofs.Common.{◌≡◌, ◌<◌, ℕ, ◌==◌, Bool, true, false, nat_eq, List, length, slice_set, Option, Some, None, refl, sym, ap, subst, ◌∙◌, arith, inl, inr}
use Rattle.std.proofs.lemmas.Bool.{cases_eq}
use Rattle.std.proofs.lemmas.Grind.{get_or-set_at}
use Rattle.std.proofs.lemmas.List.{get_or-set_other}
use Rattle.std.specs.Prelude.{◌&&◌, ◌||◌, if◌then◌else◌}
use Rattle.std.specs.Option.{option_or}
use Rattle.ns_front.specs.declared.front.FrameName.{FrameName}
use Rattle.ns_front.specs.declared.late.Closing.{Closing}
use Rattle.ns_front.specs.declared.late.Marks.{Marks}
use Rattle.ns_front.specs.declared.late.Row.{Row}
use Rattle.ns_front.specs.Late.{due_at, due_in, is_same, with_closing, row_at, no_row}
use Rattle.ns_front.specs.Private.Marks.{has_mark, with_mark, marks_at, no_marks, IsOfMic, AreOfRow, AreMarked}

-- a place of a row with another MIC is not that of a frame
other_place : (frame : FrameName) (mic : ℕ) (place : Option Closing) → IsOfMic mic place → (mic == frame.mic) ≡ false → due_at frame place ≡ None
other_place frame mic None is apart = refl
other_place frame mic (Some c) is apart =
    let mics : (c.frame.mic == frame.mic) ≡ false = ap (λ m. m == frame.mic) (is c refl) ∙ apart in
    grind (arith, mics)

-- where no MIC of a row is that of a frame, the frame does not stand there
pub unmarked : (frame : FrameName) (m : Marks) (row : Row) → AreOfRow m row → has_mark frame.mic m ≡ false → due_in frame row ≡ None
unmarked frame m row are none =
    let first = other_place frame m.first row.first are.first in
    let second = other_place frame m.second row.second are.second in
    let third = other_place frame m.third row.third are.third in
    let fourth = other_place frame m.fourth row.fourth are.fourth in
    grind (arith, none, first, second, third, fourth)

none_of : (mic : ℕ) → IsOfMic mic None
none_of mic c same = cc

-- a row of no frame has any MICs
pub marked_none : (m : Marks) → AreOfRow m no_row
marked_none m = record { first = none_of m.first; second = none_of m.second; third = none_of m.third; fourth = none_of m.fourth }

-- a row with one more frame has the MICs with that of the frame
pub marked_with : (c : Closing) (m : Marks) (row : Row) → AreOfRow m row → AreOfRow (with_mark c.frame.mic m) (with_closing c row)
marked_with c m row are = record {
  first = λ d same. ap (λ (o : Option Closing). elim o [ None ↦ 0 | Some x ↦ x.frame.mic ]) (sym same);
  second = are.first;
  third = are.second;
  fourth = are.third;
}

-- where a frame is noted in its row, the MICs stay those of all rows
pub marked_set : (c : Closing) (marks : List Marks) (rows : List Row) (at : ℕ) → at < length marks → at < length rows → AreMarked marks rows
    → AreMarked (slice_set marks at (with_mark c.frame.mic (marks_at marks at))) (slice_set rows at (with_closing c (row_at rows at)))
marked_set c marks rows at in_marks in_rows are row =
    let m = with_mark c.frame.mic (marks_at marks at) in
    let r = with_closing c (row_at rows at) in
    elim (cases_eq row at) [
      | inl same ↦ subst (λ n. AreOfRow n (row_at (slice_set rows at r) row)) (sym (get_or-set_at marks at row m no_marks same in_marks))
          (subst (λ s. AreOfRow m s) (sym (get_or-set_at rows at row r no_row same in_rows)) (marked_with c (marks_at marks at) (row_at rows at) (are at)))
      | inr other ↦ subst (λ n. AreOfRow n (row_at (slice_set rows at r) row)) (sym (get_or-set_other marks at row m no_marks other))
          (subst (λ s. AreOfRow (marks_at marks row) s) (sym (get_or-set_other rows at row r no_row other)) (are row))
    ]
