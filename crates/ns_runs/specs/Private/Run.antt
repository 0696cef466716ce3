-- What comes of a call in the states of the shards, and the states after it.
use Rattle.std.specs.Prelude.{◌≡◌, List, Option, Some, option_map, slice_get, slice_set, Result, Ok, Err, IsOk}
use Rattle.std.specs.Option.{option_map_or}
use Rattle.std.specs.declared.alloc.AllocError.{AllocError}
use Rattle.ns_calls.specs.declared.call.Call.{Call}
use Rattle.ns_calls.specs.Steps.{Refusal, link, view}
use Rattle.ns_calls.specs.Shards.{shard_of_call}
use Rattle.ns_runs.specs.declared.run.Taken.{Taken}
use Rattle.ns_runs.specs.declared.run.Taken.TheVariants.{Link, View, Made}
use Rattle.ns_shard.specs.State.{State, after_call, answer_in}

-- the call of a step, or else what comes of the step
abbrev pub refused_as : Result Call Refusal → Result Call Taken
refused_as (Ok c) = Ok c
refused_as (Err (link fault)) = Err (Link fault)
refused_as (Err (view fault)) = Err (View fault)

-- what comes of a call or a refusal in these states, and the states after it
abbrev pub taken_in : List State → Result Call Taken → Option Taken
taken_in shards (Err refusal) = Some refusal
taken_in shards (Ok c) = option_map (λ s. Made (shard_of_call c) s.made (answer_in s c)) (slice_get shards (shard_of_call c))

abbrev pub states_after : List State → Result Call Taken → List State
states_after shards (Err refusal) = shards
states_after shards (Ok c) = option_map_or (λ s. slice_set shards (shard_of_call c) (after_call s c)) (slice_get shards (shard_of_call c)) shards

-- this comes of it, and these are the states after it
pub record IsMade (states : List State) (made : Result Call Taken) (what : Taken) (after : List State) : Type 0 where
  pub taken : taken_in states made ≡ Some what
  pub shards : after ≡ states_after states made

-- how a step ends. A growth is refused where a call is made alone, and then the states are as before
abbrev pub StepEnds : List State → Result Call Taken → Result Taken AllocError → List State → Type 0
StepEnds states made (Ok what) after = IsMade states made what after
StepEnds states made (Err _) after = IsOk made × (after ≡ states)
