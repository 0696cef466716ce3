-- The place of the first element that passes a test, in a list with one element more.
use Rattle.std.proofs.Common.{◌≡◌, not, Bool, true, false, cond, List, [], ◌∷◌, ◌++◌, length, position, Some, None, refl, arith}
use Rattle.std.proofs.lemmas.Grind.{common_steps}
use Rattle.std.proofs.lemmas.List.Sums.{prefix_len-le-length}
use Rattle.std.proofs.lemmas.List.Folds.{position_or_len_push}

module _ {X : Type 0} (test : X → Bool) where
  -- the element at the end has it where it passes and none before it does, and else nothing changes
  pub position-push : (xs : List X) (x : X) → (test x ≡ true → position test xs ≡ None) → position test (xs ++ x ∷ []) ≡ cond (test x) (Some (length xs)) (position test xs)
  position-push xs x new = by (test x) refl
    where
      by : (b : Bool) → test x ≡ b → position test (xs ++ x ∷ []) ≡ cond b (Some (length xs)) (position test xs)
      by true passes = let none = new passes in grind (arith, common_steps, position_or_len_push test xs x, prefix_len-le-length (λ y. not (test y)) xs)
      by false fails = grind (arith, common_steps, position_or_len_push test xs x)
