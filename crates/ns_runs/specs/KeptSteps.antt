-- What steps leave in shards that may be trimmed between them.
use Rattle.std.specs.Prelude.{◌≡◌, ℕ, List, length, slice_get, Some}
use Rattle.ns_types.specs.Identity.{shard_count}
use Rattle.ns_roster.specs.Network.{Network}
use Rattle.ns_calls.specs.declared.call.Entry.{Entry}
use Rattle.ns_calls.specs.Legal.{IsHistory}
use Rattle.ns_acts.specs.declared.step.Step.{Step}
use Rattle.ns_shard.specs.State.{State, Keeps}
use Rattle.ns_runs.specs.Steps.{shard_history_from, no_starts}

-- each shard stands at its number
abbrev pub AreInPlace : List State → Type 0
AreInPlace shards = (shard : ℕ) (s : State) → slice_get shards shard ≡ Some s → s.index ≡ shard

-- the shard of this number has what it keeps of its history after the steps, trimmed or not, where each shard has one of these before them
pub record IsKeptFrom (net : Network) (starts : ℕ → List Entry) (steps : List Step) (shard : ℕ) (s : State) : Type 0 where
  pub roster : s.roster ≡ net
  pub index : s.index ≡ shard
  pub keeps : Keeps (shard_history_from net starts shard steps) s

-- the sixteen shards are what the steps leave, each trimmed or not, where each has one of these histories before them
pub record AreKeptFrom (net : Network) (starts : ℕ → List Entry) (steps : List Step) (shards : List State) : Type 0 where
  pub sixteen : length shards ≡ shard_count
  pub each : (shard : ℕ) (s : State) → slice_get shards shard ≡ Some s → IsKeptFrom net starts steps shard s

-- these are histories of the shards, by their numbers
abbrev pub AreHistories : Network → (ℕ → List Entry) → Type 0
AreHistories net starts = (shard : ℕ) → IsHistory net shard (starts shard)

-- the same of steps before which no shard has an entry
abbrev pub IsKeptAfter : Network → List Step → ℕ → State → Type 0
IsKeptAfter net steps shard s = IsKeptFrom net no_starts steps shard s

abbrev pub AreKeptAfter : Network → List Step → List State → Type 0
AreKeptAfter net steps shards = AreKeptFrom net no_starts steps shards

-- the shards are what some steps leave
abbrev pub AreReached : List State → Type 0
AreReached shards = (net : Network) × (steps : List Step) × AreKeptAfter net steps shards
