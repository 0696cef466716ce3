-- Shards that are restored, one after the other.
use Rattle.std.specs.Prelude.{◌≡◌, ℕ, List, [], slice_get, Some}
use Rattle.ns_roster.specs.Network.{Network}
use Rattle.ns_calls.specs.declared.call.Entry.{Entry}
use Rattle.ns_shard.specs.State.{State, IsState}
use Rattle.ns_checkpoint.specs.declared.tables.Tables.{Tables}
use Rattle.ns_restore.specs.Tables.{HasTables}
use Rattle.ns_runs.specs.KeptSteps.{AreHistories, IsKeptFrom}
use Rattle.ns_resume.specs.Head.{AreToldBy}

-- the shard of this number has these tables
pub record IsRestored (net : Network) (number : ℕ) (t : Tables) (s : State) : Type 0 where
  pub roster : s.roster ≡ net
  pub index : s.index ≡ number
  pub state : IsState s
  pub tables : HasTables s t

-- these shards, the first ones, have histories that tell the tables of their places
pub record AreRestored (net : Network) (tables : List Tables) (list : List State) : Type 0 where
  pub starts : ℕ → List Entry
  pub histories : AreHistories net starts
  pub each : (k : ℕ) (s : State) → slice_get list k ≡ Some s → IsKeptFrom net starts [] k s
  pub tell : (k : ℕ) (s : State) (t : Tables) → slice_get list k ≡ Some s → slice_get tables k ≡ Some t → AreToldBy net k (starts k) t
