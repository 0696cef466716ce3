-- What comes of each step of a run, and the shards after them.
use Rattle.std.specs.Prelude.{◌≡◌, ℕ, ◌<◌, List, [], ◌∷◌, ◌++◌, length, slice_get, Some, Result, Ok, Err}
use Rattle.ns_types.specs.Identity.{shard_count}
use Rattle.ns_roster.specs.Network.{Network}
use Rattle.ns_calls.specs.declared.call.Call.{Call}
use Rattle.ns_calls.specs.declared.call.Entry.{Entry}
use Rattle.ns_calls.specs.Steps.{Refusal, link, view}
use Rattle.ns_calls.specs.Shards.{shard_of_call}
use Rattle.ns_calls.specs.Runs.{history_after}
use Rattle.ns_calls.specs.Out.{answer}
use Rattle.ns_acts.specs.declared.step.Step.{Step}
use Rattle.ns_runs.specs.declared.run.Taken.{Taken}
use Rattle.ns_runs.specs.declared.run.Taken.TheVariants.{Link, View, Made}
use Rattle.ns_shard.specs.State.{State}
use Rattle.ns_acts.specs.Calls.{call_of}
use Rattle.ns_runs.specs.Taken.{calls_of}

-- ---- steps that go on from a history of each shard

-- the history of a shard after steps, where each shard has this history before them
abbrev pub shard_history_from : Network → (ℕ → List Entry) → ℕ → List Step → List Entry
shard_history_from net starts shard steps = history_after net (starts shard) (calls_of shard steps)

-- what comes of a call after the entries of its shard
abbrev pub made : Network → List Entry → Call → Taken
made net h c = Made (shard_of_call c) (length h) (answer net h c)

abbrev pub call_taken_from : Network → (ℕ → List Entry) → List Step → Result Call Refusal → Taken
call_taken_from net starts before (Err (link fault)) = Link fault
call_taken_from net starts before (Err (view fault)) = View fault
call_taken_from net starts before (Ok c) = made net (shard_history_from net starts (shard_of_call c) before) c

-- what comes of a step after the steps before it
abbrev pub step_taken_from : Network → (ℕ → List Entry) → List Step → Step → Taken
step_taken_from net starts before step = call_taken_from net starts before (call_of step.act)

-- what comes of steps, one after the other, after the steps before them
abbrev pub all_taken_from : Network → (ℕ → List Entry) → List Step → List Step → List Taken
all_taken_from net starts before [] = []
all_taken_from net starts before (step ∷ steps) = step_taken_from net starts before step ∷ all_taken_from net starts (before ++ step ∷ []) steps

-- ---- steps that begin with no entries

-- no shard has an entry
abbrev pub no_starts : ℕ → List Entry
no_starts shard = []

abbrev pub shard_history : Network → ℕ → List Step → List Entry
shard_history net shard steps = shard_history_from net no_starts shard steps

abbrev pub call_taken : Network → List Step → Result Call Refusal → Taken
call_taken net before made = call_taken_from net no_starts before made

abbrev pub step_taken : Network → List Step → Step → Taken
step_taken net before step = step_taken_from net no_starts before step

abbrev pub all_taken : Network → List Step → List Step → List Taken
all_taken net before steps = all_taken_from net no_starts before steps

-- the state of a shard after steps
abbrev pub state_after : Network → ℕ → List Step → State
state_after net shard steps = let h = shard_history net shard steps in record { roster = net; index = shard; made = length h; mark = 0; windows = []; entries = h }

-- the sixteen shards are those after the steps
pub record AreAfter (net : Network) (steps : List Step) (shards : List State) : Type 0 where
  pub sixteen : length shards ≡ shard_count
  pub each : (shard : ℕ) → shard < shard_count → slice_get shards shard ≡ Some (state_after net shard steps)
