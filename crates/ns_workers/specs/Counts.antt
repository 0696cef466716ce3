-- Counts of what was made with a pass.
use Rattle.std.specs.Prelude.{ℕ, ◌≡◌, ◌+◌, ◌==◌, List, slice_index, count_by}
use Rattle.ns_outside.specs.declared.receipt.Receipt.{Receipt}

-- each shard's count has risen by the receipts of that shard
abbrev pub RisesByReceipts : List ℕ → List ℕ → List Receipt → Type 0
RisesByReceipts old new receipts =
    (k : ℕ) → slice_index new k ≡ slice_index old k + count_by (λ r. k == r.shard) receipts
