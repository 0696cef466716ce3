-- Late copies of frames whose windows were closed.
use Rattle.std.specs.Prelude.{ℕ, ◌+◌, ◌%◌, ◌==◌, ◌&&◌, nat_le, nat_lt, Bool, false, List, if◌then◌else◌, Option, None, Some, slice_index_or}
use Rattle.std.specs.Option.{option_map_or, option_or}
use Rattle.ns_front.specs.declared.front.FrameName.{FrameName}
use Rattle.ns_front.specs.declared.late.Closing.{Closing}
use Rattle.ns_front.specs.declared.late.Row.{Row}

-- in which of the 1,024 rows a frame stands
abbrev pub row_of : FrameName → ℕ
row_of frame = frame.mic % 1024

-- a row of no frame, what stands in a row, and a row with one more frame
abbrev pub no_row : Row
no_row = record { first = None; second = None; third = None; fourth = None }

abbrev pub row_at : List Row → ℕ → Row
row_at rows row = slice_index_or rows row no_row

abbrev pub with_closing : Closing → Row → Row
with_closing closing row = record { first = Some closing; second = row.first; third = row.second; fourth = row.third }

-- two names are the same
abbrev pub is_same : FrameName → FrameName → Bool
is_same a b = (a.addr == b.addr) && (a.fcnt == b.fcnt) && (a.mic == b.mic)

-- when the window of a frame is closed, if this is it; by what stands in a row, the last one noted first; and by all rows
abbrev pub due_at : FrameName → Option Closing → Option ℕ
due_at frame None = None
due_at frame (Some closing) = if is_same closing.frame frame then Some closing.due else None

abbrev pub due_in : FrameName → Row → Option ℕ
due_in frame row = option_or (option_or (option_or (due_at frame row.first) (due_at frame row.second)) (due_at frame row.third)) (due_at frame row.fourth)

abbrev pub due_of : List Row → FrameName → Option ℕ
due_of rows frame = due_in frame (row_at rows (row_of frame))

-- whether a time is at or after this one, by less than a span
abbrev pub is_within : ℕ → ℕ → ℕ → Bool
is_within span due now = nat_le due now && nat_lt now (due + span)

-- whether a copy of a frame that comes at this time is late
abbrev pub is_late : ℕ → List Row → FrameName → ℕ → Bool
is_late span rows frame now = option_map_or (λ due. is_within span due now) (due_of rows frame) false
