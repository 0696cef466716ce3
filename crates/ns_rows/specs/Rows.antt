-- The elements that a table has for a key.
use Rattle.std.specs.Prelude.{ℕ, ◌==◌, List, []}
use Rattle.std.specs.Option.{option_map_or}
use Rattle.std.specs.Map.{lookup}
use Rattle.smallvec.specs.SmallVec.{SmallVec}

abbrev pub row_in : {X : Type 0} → List (ℕ × SmallVec X) → ℕ → List X
row_in rows key = option_map_or (λ v. v.items) (lookup (λ k. key == k) rows) []
