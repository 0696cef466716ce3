-- A table of rows after a write at a key.
use Rattle.std.proofs.Common.{◌≡◌, ◌==◌, ℕ, cond, List, [], ◌∷◌, ◌++◌, Some, arith, append-nil}
use Rattle.std.specs.Map.{lookup}
use Rattle.std.proofs.lemmas.Bool.Decides.{nat_tests}
use Rattle.smallvec.specs.SmallVec.{SmallVec}
use Rattle.ns_rows.specs.Rows.{row_in}

module _ {X : Type 0} (old new : List (ℕ × SmallVec X)) (key : ℕ) (w : SmallVec X) (writes : (q : ℕ) → lookup (λ a. q == a) new ≡ cond (key == q) (Some w) (lookup (λ a. q == a) old)) where
  -- where what is written has one element more, there is one more of the key alone
  pub row-added : (x : X) → w.items ≡ row_in old key ++ x ∷ [] → (k : ℕ) → row_in new k ≡ row_in old k ++ cond (key == k) (x ∷ []) []
  row-added x more k = grind (arith, nat_tests, writes k, append-nil)

  -- where what is written was there, all rows stay
  pub row-same : w.items ≡ row_in old key → (k : ℕ) → row_in new k ≡ row_in old k
  row-same same k = grind (arith, nat_tests, writes k)
