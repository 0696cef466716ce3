-- The places of the elements that pass a test.
use Rattle.std.proofs.Common.{◌≡◌, ℕ, ◌+◌, zero, suc, ◌<◌, Bool, cond, List, [], ◌∷◌, ◌++◌, length, filter, filter_map, slice_get, set, Option, Some, refl, ap, ◌∙◌, arith}
use Rattle.std.specs.List.{AllByRecursion}
use Rattle.ns_devices.specs.Places.{places_from}

module _ {X : Type 0} (test : X → Bool) where
  -- one element more at the end
  pub places-push : (n : ℕ) (xs : List X) (y : X) → places_from test n (xs ++ y ∷ []) ≡ places_from test n xs ++ cond (test y) ((n + length xs) ∷ []) []
  places-push n [] y = ap (λ i. cond (test y) (i ∷ []) []) (omega arith)
  places-push n (x ∷ xs) y =
      let place : suc n + length xs ≡ n + length (x ∷ xs) = omega arith in
      grind (arith, place, places-push (suc n) xs y)

  -- an element is replaced by one that the test cannot tell from it
  pub places-set : (n : ℕ) (xs : List X) (i : ℕ) (x y : X) → slice_get xs i ≡ Some x → test y ≡ test x → places_from test n (set xs i y) ≡ places_from test n xs
  places-set n [] i x y at same = refl
  places-set n (z ∷ zs) zero x y at same = cc
  places-set n (z ∷ zs) (suc i) x y at same = ap (λ is. cond (test z) (n ∷ is) is) (places-set (suc n) zs i x y at same)

  -- what stands at the places are the elements that pass
  found : (get : ℕ → Option X) (n : ℕ) (xs : List X) → ((i : ℕ) → get (n + i) ≡ slice_get xs i) → filter_map get (places_from test n xs) ≡ filter test xs
  found get n [] is = refl
  found get n (x ∷ xs) is =
      let here : get n ≡ Some x = ap get (omega arith) ∙ is 0 in
      grind (arith, here, found get (suc n) xs (λ i. ap get (omega arith) ∙ is (suc i)))

  pub filter-places : (xs : List X) → filter_map (slice_get xs) (places_from test 0 xs) ≡ filter test xs
  filter-places xs = found (slice_get xs) 0 xs (λ i. ap (slice_get xs) (omega arith))

  within : (n m : ℕ) (xs : List X) → n + length xs ≡ m → AllByRecursion (λ i. i < m) (places_from test n xs)
  within n m [] is = tt
  within n m (x ∷ xs) is = grind (arith, within (suc n) m xs (omega (arith, is)))

  -- and they are places of the list
  pub places-within : (xs : List X) → AllByRecursion (λ i. i < length xs) (places_from test 0 xs)
  places-within xs = within 0 (length xs) xs (omega arith)
