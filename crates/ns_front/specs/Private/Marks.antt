-- The MICs of the frames of a row, by which most frames are told from them.
use Rattle.std.specs.Prelude.{◌≡◌, ℕ, ◌==◌, ◌||◌, Bool, List, Option, Some, slice_index_or}
use Rattle.ns_front.specs.declared.late.Closing.{Closing}
use Rattle.ns_front.specs.declared.late.Marks.{Marks}
use Rattle.ns_front.specs.declared.late.Row.{Row}
use Rattle.ns_front.specs.Late.{row_at}

abbrev pub no_marks : Marks
no_marks = record { first = 0; second = 0; third = 0; fourth = 0 }

abbrev pub marks_at : List Marks → ℕ → Marks
marks_at marks row = slice_index_or marks row no_marks

abbrev pub with_mark : ℕ → Marks → Marks
with_mark mic m = record { first = mic; second = m.first; third = m.second; fourth = m.third }

abbrev pub has_mark : ℕ → Marks → Bool
has_mark mic m = (m.first == mic) || (m.second == mic) || (m.third == mic) || (m.fourth == mic)

-- what stands at a place of a row, if anything does, has this MIC
abbrev pub IsOfMic : ℕ → Option Closing → Type 0
IsOfMic mic place = (closing : Closing) → place ≡ Some closing → closing.frame.mic ≡ mic

-- these are the MICs of the frames of a row, and those of all rows
pub record AreOfRow (m : Marks) (row : Row) : Type 0 where
  pub first : IsOfMic m.first row.first
  pub second : IsOfMic m.second row.second
  pub third : IsOfMic m.third row.third
  pub fourth : IsOfMic m.fourth row.fourth

abbrev pub AreMarked : List Marks → List Row → Type 0
AreMarked marks rows = (row : ℕ) → AreOfRow (marks_at marks row) (row_at rows row)
