-- What a lock keeps.
use Rattle.std.specs.Prelude.{ℕ, ◌≡◌, ◌+◌}
use Rattle.ns_roster.specs.Network.{Network}
use Rattle.ns_shard.specs.State.{State, IsState}
use Rattle.ns_tally.specs.declared.ShardBook.{ShardBook}
use Rattle.ns_tally.specs.Tally.{shard_of_book, total_of_book}
use Rattle.ns_server.specs.Begun.{BeganAs}

-- a state of this shard under this roster
pub record IsStateOf (net : Network) (shard : ℕ) (s : State) : Type 0 where
  pub set_up : s.roster ≡ net
  pub index : s.index ≡ shard
  pub state : IsState s

-- such a state, which began as the first, with the book that counts the entries made since
pub record IsKept {B : Type 0} (net : Network) (first : State) (shard : ℕ) (s : State) (book : ShardBook B) : Type 0 where
  pub state : IsStateOf net shard s
  pub book_of : shard_of_book book ≡ shard
  pub counted : first.made + total_of_book book ≡ s.made
  pub began : BeganAs first s
