-- The windows at places, as one comes, changes and goes.
use Rattle.std.proofs.Common.{◌≡◌, ℕ, zero, suc, ◌<◌, ◌≤◌, Bool, take, get_or, true, false, cond, List, [], ◌∷◌, ◌++◌, length, filter, find, map, option_to_list, Option, None, Some, is_some, refl, sym, ap, subst, ◌∙◌, arith, inl, inr}
use Rattle.std.specs.List.{AllByRecursion, slice_set}
use Rattle.std.specs.Option.{option_map_or}
use Rattle.std.proofs.lemmas.Bool.{true≢false}
use Rattle.ns_types.specs.declared.identity.WindowName.{WindowName}
use Rattle.ns_calls.proofs.LocalLemmas.{bool_tells}
use Rattle.ns_windows.specs.declared.window.Window.{Window}
use Rattle.ns_windows.specs.Windows.{is_named, without, AreApart, NoTwo}
use Rattle.ns_windows.specs.Places.{open_of, window_at, passes_at}
use Rattle.ns_windows.proofs.Names.{none_else}
use Rattle.ns_windows.proofs.Passing.{filter-none, map-none}

-- ---- one place more

pub open-push : (ps : List (Option Window)) (w : Window) → open_of (ps ++ Some w ∷ []) ≡ open_of ps ++ w ∷ []
open-push [] w = refl
open-push (None ∷ ps) w = open-push ps w
open-push (Some v ∷ ps) w = ap (λ ws. v ∷ ws) (open-push ps w)

-- ---- the window at a place

-- what holds of all open windows holds of the one at a place
pub all-there : (P : Window → Type 0) (ps : List (Option Window)) (i : ℕ) (w : Window) → window_at ps i ≡ Some w → AllByRecursion P (open_of ps) → P w
all-there P [] i w at all = absurd (cc at)
all-there P (None ∷ ps) zero w at all = absurd (cc at)
all-there P (None ∷ ps) (suc i) w at all = all-there P ps i w at all
all-there P (Some v ∷ ps) zero w at all = by v (cc at) all.0
  where
    by : (u : Window) → u ≡ w → P u → P w
    by u is holds = subst P is holds
all-there P (Some v ∷ ps) (suc i) w at all = all-there P ps i w at all.1

-- what passes at a place is a window
pub passes-there : (test : Window → Bool) (ps : List (Option Window)) (i : ℕ) → passes_at test i ps ≡ true → (w : Window) × (window_at ps i ≡ Some w) × (test w ≡ true)
passes-there test ps i at = by (window_at ps i) refl
  where
    by : (o : Option Window) → window_at ps i ≡ o → (w : Window) × (window_at ps i ≡ Some w) × (test w ≡ true)
    by None is = absurd (true≢false (sym at ∙ ap (λ p. option_map_or test p false) is))
    by (Some w) is = (w, is, sym (ap (λ p. option_map_or test p false) is) ∙ at)

-- the place is one of them
pub place-within : (ps : List (Option Window)) (i : ℕ) (w : Window) → window_at ps i ≡ Some w → i < length ps
place-within [] i w at = absurd (cc at)
place-within (p ∷ ps) zero w at = omega arith
place-within (p ∷ ps) (suc i) w at = omega (arith, place-within ps i w at)

-- where no two are alike, the window at a place is the one that is found by what it passes
pub found-there : (test : Window → Bool) (alike : Window → Window → Bool) → ((w v : Window) → test w ≡ true → alike w v ≡ test v)
    → (ps : List (Option Window)) (i : ℕ) (w : Window) → window_at ps i ≡ Some w → test w ≡ true → NoTwo alike (open_of ps) → find test (open_of ps) ≡ Some w
found-there test alike same [] i w at is apart = absurd (cc at)
found-there test alike same (None ∷ ps) zero w at is apart = absurd (cc at)
found-there test alike same (None ∷ ps) (suc i) w at is apart = found-there test alike same ps i w at is apart
found-there test alike same (Some v ∷ ps) zero w at is apart =
    let here : v ≡ w = cc at in
    rw (here, is) refl
found-there test alike same (Some v ∷ ps) (suc i) w at is apart =
    elim (bool_tells (test v)) [
      | inl too ↦ absurd (true≢false (sym is ∙ sym (same v w too) ∙ all-there (λ u. alike v u ≡ false) ps i w at apart.0))
      | inr isnt ↦ rw isnt (found-there test alike same ps i w at is apart.1)
    ]

-- ---- a change of the window of a name, which is at a place

-- a window before it has another name
pub other-named : (name : WindowName) (v : Window) (ps : List (Option Window)) (i : ℕ) (w : Window) → window_at ps i ≡ Some w → is_named name w ≡ true
    → AllByRecursion (λ u. is_named v.name u ≡ false) (open_of ps) → is_named name v ≡ false
other-named name v ps i w at is apart =
    elim (bool_tells (is_named name v)) [
      | inl too ↦ absurd (true≢false (sym is ∙ all-there (λ u. is_named name u ≡ false) ps i w at (none_else name v (open_of ps) too apart)))
      | inr isnt ↦ isnt
    ]

pub open-changed : (name : WindowName) (f : Window → Window) (ps : List (Option Window)) (i : ℕ) (w : Window) → window_at ps i ≡ Some w → is_named name w ≡ true → AreApart (open_of ps)
    → open_of (slice_set ps i (Some (f w))) ≡ map (λ x. cond (is_named name x) (f x) x) (open_of ps)
open-changed name f [] i w at is apart = absurd (cc at)
open-changed name f (None ∷ ps) zero w at is apart = absurd (cc at)
open-changed name f (None ∷ ps) (suc i) w at is apart = open-changed name f ps i w at is apart
open-changed name f (Some v ∷ ps) zero w at is apart =
    let same : v ≡ w = cc at in
    let named : is_named name v ≡ true = ap (is_named name) same ∙ is in
    rw (named, map-none (is_named name) f (open_of ps) (none_else name v (open_of ps) named apart.0), same) refl
open-changed name f (Some v ∷ ps) (suc i) w at is apart =
    rw (other-named name v ps i w at is apart.0) (ap (λ ws. v ∷ ws) (open-changed name f ps i w at is apart.1))

-- ---- a window less

pub open-taken : (name : WindowName) (ps : List (Option Window)) (i : ℕ) (w : Window) → window_at ps i ≡ Some w → is_named name w ≡ true → AreApart (open_of ps)
    → open_of (slice_set ps i None) ≡ without name (open_of ps)
open-taken name [] i w at is apart = absurd (cc at)
open-taken name (None ∷ ps) zero w at is apart = absurd (cc at)
open-taken name (None ∷ ps) (suc i) w at is apart = open-taken name ps i w at is apart
open-taken name (Some v ∷ ps) zero w at is apart =
    let same : v ≡ w = cc at in
    let named : is_named name v ≡ true = ap (is_named name) same ∙ is in
    rw (named, filter-none (is_named name) (open_of ps) (none_else name v (open_of ps) named apart.0)) refl
open-taken name (Some v ∷ ps) (suc i) w at is apart =
    rw (other-named name v ps i w at is apart.0) (ap (λ ws. v ∷ ws) (open-taken name ps i w at is apart.1))

-- without the empty places
pub filled-is : (ps : List (Option Window)) → filter is_some ps ≡ map Some (open_of ps)
filled-is [] = refl
filled-is (None ∷ ps) = filled-is ps
filled-is (Some w ∷ ps) = ap (λ os. Some w ∷ os) (filled-is ps)

pub open-filled : (ws : List Window) → open_of (map Some ws) ≡ ws
open-filled [] = refl
open-filled (w ∷ ws) = ap (λ vs. w ∷ vs) (open-filled ws)

pub open-length : (ps : List (Option Window)) → length (open_of ps) ≤ length ps
open-length [] = omega arith
open-length (None ∷ ps) = omega (arith, open-length ps)
open-length (Some w ∷ ps) = omega (arith, open-length ps)

-- ---- the windows of the places up to one

pub open-take : (ps : List (Option Window)) (i : ℕ) (o : Option Window) → i < length ps → o ≡ get_or ps i o → open_of (take (suc i) ps) ≡ open_of (take i ps) ++ option_to_list o
open-take [] i o within at = absurd (omega (arith, within))
open-take (None ∷ ps) zero None within at = refl
open-take (None ∷ ps) zero (Some w) within at = absurd (cc at)
open-take (Some v ∷ ps) zero None within at = absurd (cc at)
open-take (Some v ∷ ps) zero (Some w) within at = ap (λ (u : Option Window). option_to_list u) (sym at)
open-take (None ∷ ps) (suc i) o within at = open-take ps i o (omega (arith, within)) at
open-take (Some v ∷ ps) (suc i) o within at = ap (λ ws. v ∷ ws) (open-take ps i o (omega (arith, within)) at)

-- they are no more than the places up to it
pub open-take-length : (ps : List (Option Window)) (i : ℕ) → length (open_of (take i ps)) ≤ i
open-take-length ps zero = omega arith
open-take-length [] (suc i) = omega arith
open-take-length (None ∷ ps) (suc i) = omega (arith, open-take-length ps i)
open-take-length (Some w ∷ ps) (suc i) = omega (arith, open-take-length ps i)

pub open-take-all : (ps : List (Option Window)) → open_of (take (length ps) ps) ≡ open_of ps
open-take-all [] = refl
open-take-all (None ∷ ps) = open-take-all ps
open-take-all (Some w ∷ ps) = ap (λ ws. w ∷ ws) (open-take-all ps)

-- one more where there is a window
pub open-take-some : (ps : List (Option Window)) (i : ℕ) → is_some (window_at ps i) ≡ true → length (open_of (take (suc i) ps)) ≡ suc (length (open_of (take i ps)))
open-take-some [] i at = absurd (cc at)
open-take-some (None ∷ ps) zero at = absurd (cc at)
open-take-some (Some v ∷ ps) zero at = refl
open-take-some (None ∷ ps) (suc i) at = open-take-some ps i at
open-take-some (Some v ∷ ps) (suc i) at = ap suc (open-take-some ps i at)

pub open-take-none : (ps : List (Option Window)) (i : ℕ) → is_some (window_at ps i) ≡ false → length (open_of (take (suc i) ps)) ≡ length (open_of (take i ps))
open-take-none [] zero at = refl
open-take-none [] (suc i) at = refl
open-take-none (None ∷ ps) zero at = refl
open-take-none (Some v ∷ ps) zero at = absurd (cc at)
open-take-none (None ∷ ps) (suc i) at = open-take-none ps i at
open-take-none (Some v ∷ ps) (suc i) at = ap suc (open-take-none ps i at)
