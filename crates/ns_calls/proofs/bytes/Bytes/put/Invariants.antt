use Rattle.std.proofs.Common.{◌≡◌, ◌≤◌, ◌-◌, ◌++◌, length, drop, replicate}
use Rattle.ns_calls.proofs.bytes.Bytes.put.Given as goal

-- the room holds the bytes, zeros up to `at`, and behind them what it held
abbrev pub invariant-loop-at : goal.invariant-loop-at
invariant-loop-at g l = record {
  within : l.at ≤ g.row.N;
  room : l.self-inside.room ≡ l.bytes ++ (replicate (l.at - length l.bytes) 0 ++ drop l.at l.initial.self-inside.room);
}
