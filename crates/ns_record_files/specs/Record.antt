-- What the files of a record have of the lines that were handed over.
use Rattle.std.specs.Prelude.{◌≡◌, ℕ, Bool, false, List, ◌∷◌, [], ◌++◌, Option, None, Some, flat_map, All}
use Rattle.ns_record_files.specs.Disk.{Files, Moments, all_moments, IsFront}

-- a line with its line feed
abbrev pub with_feed : List ℕ → List ℕ
with_feed line = line ++ 10 ∷ []

-- lines that were handed over together: step lines, and the up lines that these imply
pub record Batch : Type 0 where
  pub steps : List ℕ
  pub ups : List ℕ

abbrev pub all_steps : List Batch → List ℕ
all_steps batches = flat_map (λ b. b.steps) batches

abbrev pub all_ups : List Batch → List ℕ
all_ups batches = flat_map (λ b. b.ups) batches

-- At a moment the files have fronts of the lines of these batches, and up lines only of batches whose steps no crash takes away.
pub record IsRecorded (batches : List Batch) (f : Files) : Type 0 where
  pub done : List Batch
  pub others : List Batch
  pub parts : batches ≡ done ++ others
  pub steps : IsFront f.steps (all_steps batches)
  pub safe : IsFront (all_steps done) f.safe
  pub ups : IsFront f.ups (all_ups done)

-- What a crash left, read again: all steps of some first batches, perhaps more of the steps, and a front of the up lines of those batches.
pub record IsLeft (batches : List Batch) (left_steps left_ups : List ℕ) : Type 0 where
  pub done : List Batch
  pub others : List Batch
  pub parts : batches ≡ done ++ others
  pub steps : IsFront left_steps (all_steps batches)
  pub whole : IsFront (all_steps done) left_steps
  pub ups : IsFront left_ups (all_ups done)

-- the files have the lines of these batches, and no crash takes a step of them away
pub record IsWhole (batches : List Batch) (f : Files) : Type 0 where
  pub steps : f.steps ≡ all_steps batches
  pub safe : f.safe ≡ all_steps batches
  pub ups : f.ups ≡ all_ups batches

-- at each moment so far the files have had no more than these batches
abbrev pub HasBeen : List Batch → Option Moments → Type 0
HasBeen batches None = Unit {0}
HasBeen batches (Some ms) = All (IsRecorded batches) (all_moments ms)

-- and now they have all of them
abbrev pub HasAll : List Batch → Option Moments → Type 0
HasAll batches None = Unit {0}
HasAll batches (Some ms) = All (IsRecorded batches) (all_moments ms) × IsWhole batches ms.now

-- From one moment to a later one, in which one batch more is written, whole or in part: at each moment between no crash takes away a step
-- of the batches before it, and there is no more than these and it.
pub record GoesOn (batches : List Batch) (b : Batch) (old new : Moments) : Type 0 where
  pub later : List Files
  pub moments : all_moments new ≡ later ++ all_moments old
  pub stays : All (λ f. IsFront (all_steps batches) f.safe) later
  pub recorded : All (IsRecorded (batches ++ b ∷ [])) (all_moments new)

-- the same, where the moments are told
abbrev pub GoesOnKnown : List Batch → Batch → Option Moments → Option Moments → Type 0
GoesOnKnown batches b None new = new ≡ None
GoesOnKnown batches b (Some old) new = (ms : Moments) × (new ≡ Some ms) × GoesOn batches b old ms

-- what a writer is to who calls it: the moments of its files, and whether a call of it has failed
pub record Written : Type 0 where
  pub moments : Option Moments
  pub failed : Bool

-- A writer's files have had some batches at most, and have all of them as long as no call has failed.
pub record IsSound (w : Written) : Type 0 where
  pub batches : List Batch
  pub been : HasBeen batches w.moments
  pub whole : w.failed ≡ false → HasAll batches w.moments
