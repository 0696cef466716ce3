-- When a shard of a running server is trimmed, and what becomes of it.
use Rattle.std.specs.Prelude.{ℕ, ◌≡◌, ◌+◌, nat_le, Bool, true, false, List, slice_index}
use Rattle.ns_roster.specs.Network.{Network}
use Rattle.ns_server.specs.declared.kept.Trim.{Trim}
use Rattle.ns_server.specs.Trims.{IsTrimInPlaceOf}
use Rattle.ns_serve_shards.specs.declared.trims.Trims.{Trims}
use Rattle.ns_serve_shards.specs.declared.trims.Trimmed.{Trimmed}
use Rattle.ns_serve_shards.specs.declared.trims.Trimmed.TheVariants.{NotDue, At, Refused}

-- whether so many entries of a shard were made since the mark of its last trim
abbrev pub is_due : Trims → List ℕ → ℕ → Bool
is_due trims made shard = nat_le (slice_index trims.marks shard + trims.every) (slice_index made shard)

-- what a trim of a shard told: its mark, or that it was refused
abbrev pub IsToldBy : Network → ℕ → Trimmed → Type 0
IsToldBy net shard NotDue = ⊥
IsToldBy net shard (At told) = (t : Trim) × IsTrimInPlaceOf net shard t × (t.mark ≡ told)
IsToldBy net shard (Refused fault) = Unit {0}

-- the mark of a shard after what was told of it
abbrev pub mark_after : ℕ → Trimmed → ℕ
mark_after mark NotDue = mark
mark_after mark (At told) = told
mark_after mark (Refused fault) = mark

-- what is told of a shard: where it is due, what a trim of it told; else that it is not
abbrev pub IsTold : Network → Trims → List ℕ → ℕ → Trimmed → Type 0
IsTold net trims made shard told =
    (is_due trims made shard ≡ true → IsToldBy net shard told) × (is_due trims made shard ≡ false → told ≡ NotDue)
