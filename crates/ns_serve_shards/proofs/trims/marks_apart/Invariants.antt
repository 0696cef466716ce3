use Rattle.std.proofs.Common.{◌≡◌, ◌<◌, ◌*◌, ◌/◌, ℕ, length}
use Rattle.std.specs.Prelude.{slice_index}
use Rattle.ns_serve_shards.proofs.trims.marks_apart.Given as goal

-- the marks before this place are there
abbrev pub invariant-loop-place : goal.invariant-loop-place
invariant-loop-place l = (length l.marks ≡ 16) × ((k : ℕ) → k < l.place → slice_index l.marks k ≡ k * (l.every / 16))
