use Rattle.std.proofs.Common.{◌≡◌, ℕ, ◌<◌, Some, None}
use Rattle.std.specs.Prelude.{slice_get}
use Rattle.ns_shard.specs.State.{State, oldest_in}
use Rattle.ns_server.proofs.settled.first_open.Given as goal

-- the shards so far have no open window
abbrev pub invariant-loop-i : goal.invariant-loop-i
invariant-loop-i l = (j : ℕ) (s : State) → j < l.i → slice_get l.shards j ≡ Some s → oldest_in s ≡ None
