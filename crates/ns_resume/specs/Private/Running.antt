-- A run of lines so far.
use Rattle.std.specs.Prelude.{◌≡◌, ℕ, ◌+◌, false, true, List, [], ◌∷◌, ◌++◌, length, flat_map, slice_get, slice_set, Option, Some}
use Rattle.std.specs.List.{AllByRecursion}
use Rattle.std.specs.Io.KnownBytes.{Consumes}
use Rattle.ns_roster.specs.Network.{Network}
use Rattle.ns_calls.specs.declared.call.Call.{Call}
use Rattle.ns_calls.specs.declared.call.Entry.{Entry}
use Rattle.ns_calls.specs.declared.answer.Answer.{Answer}
use Rattle.ns_calls.specs.Shards.{shard_of_call}
use Rattle.ns_lines.specs.Text.{has_line_feed}
use Rattle.ns_recorded.specs.Recorded.{matters}
use Rattle.ns_acts.specs.declared.step.Step.{Step}
use Rattle.ns_shard.specs.State.{State, MayBeTrimmed, answer_in, after_call}
use Rattle.ns_runs.specs.KeptSteps.{AreKeptFrom}
use Rattle.ns_steps.specs.StepLines as lines
use Rattle.ns_steps.specs.StepLines.{ended}
use Rattle.ns_resume.specs.Resumed.{AreStepsOf, AllFitFrom, AreUps, ups_since_from}
use Rattle.ns_resume.specs.declared.run.Running.{Running}

-- the call was made at its shard, which may have been trimmed then, and this is its answer, on which later answers rest
pub record HasAnswered (old new : List State) (c : Call) (a : Answer) : Type 0 where
  pub before : State
  pub at : slice_get old (shard_of_call c) ≡ Some before
  pub answered : a ≡ answer_in before c
  pub matters : matters a.reply ≡ true
  pub after : State
  pub trimmed : MayBeTrimmed (after_call before c) after
  pub shards : new ≡ slice_set old (shard_of_call c) after

-- The run of these steps so far, where each shard has one of these histories before them, so much of the `up` lines was read, and so many
-- first steps imply none.
pub record HasRun (net : Network) (starts : ℕ → List Entry) (before : ℕ) (steps : List Step) (read : List ℕ) (r : Running) : Type 0 where
  pub shards : AreKeptFrom net starts steps r.shards.items
  pub fit : AllFitFrom net starts steps
  pub ups : AreUps read (ups_since_from net starts before steps) r.ups.missing.items r.ups.torn

-- One step more, that of this line, was run, and some bytes of the `up` lines were read.
pub record RunsOn (old new : Option (List ℕ)) (net : Network) (starts : ℕ → List Entry) (before : ℕ) (steps : List Step) (line read : List ℕ) (r : Running) : Type 0 where
  pub step : Step
  pub is_step : lines.step line ≡ Some step.act
  pub bytes : List ℕ
  pub consumed : Consumes old new bytes
  pub has_run : HasRun net starts before (steps ++ step ∷ []) (read ++ bytes) r

-- All lines before the one of this number were run, from where the steps and the `up` lines began to where they are now. The first line
-- has that number, and so many lines imply no `up` line.
pub record RunsUpTo (net : Network) (starts : ℕ → List Entry) (first_number before number : ℕ) (first now ups_first ups_now : Option (List ℕ)) (r : Running) : Type 0 where
  pub lines : List (List ℕ)
  pub numbered : length lines + first_number ≡ number
  pub whole : AllByRecursion (λ line. has_line_feed line ≡ false) lines
  pub consumed : Consumes first now (flat_map ended lines)
  pub steps : List Step
  pub are_steps : AreStepsOf lines steps
  pub read : List ℕ
  pub ups_consumed : Consumes ups_first ups_now read
  pub has_run : HasRun net starts before steps read r
