use Rattle.std.proofs.Common.{◌≡◌, ℕ, ◌<◌, Some}
use Rattle.std.specs.Prelude.{slice_get}
use Rattle.ns_outside.specs.declared.receipt.Receipt.{Receipt}
use Rattle.ns_server.proofs.check.is_repeated.Given as goal

abbrev pub invariant-loop-j : goal.invariant-loop-j
invariant-loop-j l = (k : ℕ) (q : Receipt) → k < l.j → slice_get l.receipts k ≡ Some q → (q.shard ≡ l.receipt.shard) × (q.entry.number ≡ l.receipt.entry.number) → ⊥
