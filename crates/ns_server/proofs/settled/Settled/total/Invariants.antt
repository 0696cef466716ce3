use Rattle.std.proofs.Common.{◌≡◌, ◌*◌, ◌^◌, ◌≤◌, take}
use Rattle.std.specs.Prelude.{sum_by}
use Rattle.ns_shard.specs.State.{State}
use Rattle.ns_server.proofs.settled.Settled.total.Given as goal

-- each count is a number of 64 bits
abbrev pub invariant-loop-shard : goal.invariant-loop-shard
invariant-loop-shard g l = record {
  sum : l.total ≡ sum_by (λ (s : State). s.made) (take l.shard-index l.shard-items);
  small : l.total ≤ l.shard-index * 2 ^ 64;
}
