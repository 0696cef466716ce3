-- How a shard goes on from the state with which its server began.
use Rattle.std.specs.Prelude.{◌≡◌, ℕ, List, ◌++◌, Some, slice_get, get_or}
use Rattle.ns_roster.specs.Network.{Network}
use Rattle.ns_calls.specs.declared.call.Entry.{Entry}
use Rattle.ns_calls.specs.Legal.{IsHistory}
use Rattle.ns_shard.specs.State.{State, Keeps, no_entries}

-- there is a history of the shard that begins with these entries, and the shard has what it keeps of it
pub record BeginsWith (begun : List Entry) (s : State) : Type 0 where
  pub more : List Entry
  pub is_history : IsHistory s.roster s.index (begun ++ more)
  pub keeps : Keeps (begun ++ more) s

-- the shard began as the first: each history of which that one had what it keeps goes on to one of which this has what it keeps
pub record BeganAs (first s : State) : Type 0 where
  pub goes_on : (h : List Entry) → IsHistory first.roster first.index h → Keeps h first → BeginsWith h s

-- each shard began as the one of its place
abbrev pub AreBegun : (ℕ → State) → List State → Type 0
AreBegun begun states = (k : ℕ) (s : State) → slice_get states k ≡ Some s → BeganAs (begun k) s

-- each shard has this roster, and its place as its number
abbrev pub ArePlaced : Network → List State → Type 0
ArePlaced net states = (k : ℕ) (s : State) → slice_get states k ≡ Some s → (s.roster ≡ net) × (s.index ≡ k)

-- the shards by their places, without entries where there is none
abbrev pub states_at : Network → List State → ℕ → State
states_at net states k = get_or states k (no_entries net k)
