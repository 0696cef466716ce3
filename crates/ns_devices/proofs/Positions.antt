-- The first element that passes a test, by its place.
use Rattle.std.proofs.Common.{◌≡◌, ℕ, ◌+◌, suc, Bool, List, [], ◌∷◌, find, position, slice_get, set, None, Some, refl, sym, ap, ◌∙◌, arith}
use Rattle.std.specs.List.{position_or_len}
use Rattle.std.proofs.lemmas.Grind.{common_steps}
use Rattle.std.proofs.lemmas.Option.{slice_get_past}
use Rattle.std.proofs.lemmas.List.Folds.{find_at}
use Rattle.ns_devices.specs.Devices.{change_first}

module _ {X : Type 0} (test : X → Bool) where
  -- where there is no place, none is found
  pub find-nowhere : (xs : List X) → position test xs ≡ None → find test xs ≡ None
  find-nowhere xs none = grind (arith, common_steps, find_at test xs, slice_get_past)

  -- what stands at the place is what is found
  pub find-placed : (xs : List X) (i : ℕ) (x : X) → position test xs ≡ Some i → slice_get xs i ≡ Some x → find test xs ≡ Some x
  find-placed xs i x at is =
      let first : position_or_len test xs ≡ i = grind (arith, common_steps) in
      find_at test xs ∙ ap (slice_get xs) first ∙ is

  -- a write where the first stands is a change of the first
  set-first : (f : X → X) (xs : List X) (x : X) → slice_get xs (position_or_len test xs) ≡ Some x → set xs (position_or_len test xs) (f x) ≡ change_first test f xs
  set-first f [] x is = absurd (cc is)
  set-first f (y ∷ ys) x is =
      let one_more : 1 + position_or_len test ys ≡ suc (position_or_len test ys) = omega arith in
      grind (arith, one_more, set-first f ys x)

  pub set-placed : (f : X → X) (xs : List X) (i : ℕ) (x : X) → position test xs ≡ Some i → slice_get xs i ≡ Some x → set xs i (f x) ≡ change_first test f xs
  set-placed f xs i x at is =
      let first : position_or_len test xs ≡ i = grind (arith, common_steps) in
      ap (λ n. set xs n (f x)) (sym first) ∙ set-first f xs x (ap (slice_get xs) first ∙ is)

  -- where none is found, nothing changes
  pub change-nothing : (f : X → X) (xs : List X) → find test xs ≡ None → xs ≡ change_first test f xs
  change-nothing f [] none = refl
  change-nothing f (x ∷ xs) none = grind (arith, change-nothing f xs)
