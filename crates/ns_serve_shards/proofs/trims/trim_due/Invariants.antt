use Rattle.std.proofs.Common.{◌≡◌, ◌≤◌, ◌<◌, ℕ, length}
use Rattle.std.specs.Prelude.{get_or, slice_index}
use Rattle.ns_serve_shards.specs.declared.trims.Trimmed.TheVariants.{NotDue}
use Rattle.ns_serve_shards.specs.Trims.{IsTold, mark_after}
use Rattle.ns_serve_shards.proofs.trims.trim_due.Given as goal

-- what is told of the shards before this one is what became of them, and those from it on have their marks
abbrev pub invariant-loop-shard : goal.invariant-loop-shard
invariant-loop-shard g l =
    (l.trims.every ≡ l.fn.trims.every)
    × (length l.trims.marks ≡ 16)
    × (length l.told ≡ 16)
    × ((k : ℕ) → l.shard ≤ k → slice_index l.trims.marks k ≡ slice_index l.fn.trims.marks k)
    × ((k : ℕ) → k < l.shard → IsTold g.B.Naming.roster l.fn.trims l.made k (get_or l.told k NotDue))
    × ((k : ℕ) → k < l.shard → slice_index l.trims.marks k ≡ mark_after (slice_index l.fn.trims.marks k) (get_or l.told k NotDue))
