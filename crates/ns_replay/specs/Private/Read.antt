-- What a reader of lines has read.
use Rattle.std.specs.Prelude.{◌≡◌, ◌==◌, ℕ, Bool, true, false, List, [], ◌++◌, Option, None, Some}
use Rattle.std.specs.List.{All}
use Rattle.std.specs.Io.KnownBytes.{Consumes, IsAtEnd}
use Rattle.ns_acts.specs.declared.step.Step.{Step}
use Rattle.ns_replay.specs.Output.{step_lines}

-- The line that the reader is at, what it has read of the next one before its block, what it has not looked at of the block, and whether
-- the source is at its end.
pub record ReadText : Type 0 where
  pub here : List ℕ
  pub begun : List ℕ
  pub block : List ℕ
  pub ended : Bool

-- no line feed is among the bytes
abbrev pub Unended : List ℕ → Type 0
Unended bytes = All (λ b. (b == 10) ≡ false) bytes

-- the source gave these bytes, none at its end alone
abbrev pub AreOf : Option (List ℕ) → Option (List ℕ) → Bool → List ℕ → Type 0
AreOf old new is_end bytes = Consumes old new bytes × (is_end ≡ true → IsAtEnd new × (bytes ≡ [])) × (is_end ≡ false → (bytes ≡ [] → ⊥))

-- The lines that are left: those of what was read and not given. The source's own bytes follow, unless it is at its end.
abbrev pub left_by : Bool → List ℕ → Option (List ℕ) → Option (List (Option Step))
left_by true read left = Some (step_lines read)
left_by false read None = None
left_by false read (Some left) = Some (step_lines (read ++ left))

abbrev pub lines_left : ReadText → Option (List ℕ) → Option (List (Option Step))
lines_left r left = left_by r.ended (r.begun ++ r.block) left
