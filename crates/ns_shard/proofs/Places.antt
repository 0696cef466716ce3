-- A change of the first element that passes a test.
use Rattle.std.proofs.Common.{◌≡◌, Bool, List, [], ◌∷◌, find, Some, refl, ap, inl, inr}
use Rattle.ns_calls.proofs.LocalLemmas.{bool_tells}
use Rattle.ns_devices.specs.Devices.{change_first}

-- ---- a change of the first that passes, by what is found

-- two changes that do the same to what is found do the same
pub change_first-same : {X : Type 0} (test : X → Bool) (f g : X → X) (xs : List X) (x : X) → find test xs ≡ Some x → f x ≡ g x → change_first test f xs ≡ change_first test g xs
change_first-same test f g [] x found same = refl
change_first-same test f g (y ∷ ys) x found same =
    elim (bool_tells (test y)) [
      | inl passes ↦ (let is : Some y ≡ Some x = rw passes at found in rw passes cc)
      | inr fails ↦ rw fails (ap (λ zs. y ∷ zs) (change_first-same test f g ys x (rw fails at found) same))
    ]

-- where what is found stays, all stays
pub change_first-stays : {X : Type 0} (test : X → Bool) (f : X → X) (xs : List X) (x : X) → find test xs ≡ Some x → f x ≡ x → change_first test f xs ≡ xs
change_first-stays test f [] x found stays = refl
change_first-stays test f (y ∷ ys) x found stays =
    elim (bool_tells (test y)) [
      | inl passes ↦ (let is : Some y ≡ Some x = rw passes at found in rw passes cc)
      | inr fails ↦ rw fails (ap (λ zs. y ∷ zs) (change_first-stays test f ys x (rw fails at found) stays))
    ]
