-- The two files of a record over time, and what a crash leaves of them.
use Rattle.std.specs.Prelude.{◌≡◌, ℕ, List, ◌∷◌, ◌++◌}

-- What was appended to the two files by a moment, and what of the steps no crash takes away from then on.
pub record Files : Type 0 where
  pub steps : List ℕ
  pub safe : List ℕ
  pub ups : List ℕ

-- the files now and at each moment before, the latest first
pub record Moments : Type 0 where
  pub now : Files
  pub before : List Files

abbrev pub all_moments : Moments → List Files
all_moments ms = ms.now ∷ ms.before

-- one moment more
abbrev pub moves : (Files → Files) → Moments → Moments
moves change ms = record { now = change ms.now; before = ms.now ∷ ms.before }

abbrev pub with_steps : List ℕ → Files → Files
with_steps bytes f = record { steps = f.steps ++ bytes; safe = f.safe; ups = f.ups }

abbrev pub with_ups : List ℕ → Files → Files
with_ups bytes f = record { steps = f.steps; safe = f.safe; ups = f.ups ++ bytes }

abbrev pub all_safe : Files → Files
all_safe f = record { steps = f.steps; safe = f.steps; ups = f.ups }

-- these bytes begin those
abbrev pub IsFront : List ℕ → List ℕ → Type 0
IsFront front bytes = (rest : List ℕ) × (front ++ rest ≡ bytes)

-- What a crash at a moment may leave of the two files: of each a front of what was appended, and of the steps all that is safe. In the
-- middle of an append that is what it may leave behind it, and in the middle of a sync what it may leave before it.
pub record MayLeave (f : Files) (left_steps left_ups : List ℕ) : Type 0 where
  pub safe : IsFront f.safe left_steps
  pub steps : IsFront left_steps f.steps
  pub ups : IsFront left_ups f.ups
