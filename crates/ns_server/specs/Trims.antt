-- What a trim under a lock tells of the shard that was trimmed.
use Rattle.std.specs.Prelude.{ℕ, ◌≡◌, ◌+◌, length}
use Rattle.ns_roster.specs.Network.{Network}
use Rattle.ns_shard.specs.declared.trim.Dropped.{Dropped}
use Rattle.ns_shard.specs.State.{State, after_trim, dropped}
use Rattle.ns_server.specs.declared.kept.Trim.{Trim}
use Rattle.ns_server.specs.Kept.{IsStateOf}

-- There is a state of this shard, which some legal history of the shard leaves: the mark is how many entries were made by then, and what
-- is handed out is all that a trim of that state drops.
pub record IsTrimOf (net : Network) (shard : ℕ) (d : Dropped) : Type 0 where
  pub before : State
  pub is_state : IsStateOf net shard before
  pub mark : d.mark ≡ before.made
  pub entries : d.entries.items ≡ dropped before

-- The same of a trim that hands nothing out: it tells how many entries a trim of that state drops.
pub record IsTrimInPlaceOf (net : Network) (shard : ℕ) (t : Trim) : Type 0 where
  pub before : State
  pub is_state : IsStateOf net shard before
  pub mark : t.mark ≡ before.made
  pub count : t.dropped + length (after_trim before).entries ≡ length before.entries
