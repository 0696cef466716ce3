-- What is known of windows by their frames and their devices, as one comes and goes.
use Rattle.std.proofs.Common.{◌≡◌, ℕ, ◌+◌, ◌==◌, Bool, true, false, cond, List, [], ◌∷◌, ◌++◌, map, find, Option, None, Some, option_map, IfSome, bytes_eq, refl, sym, ap, subst, ◌∙◌, arith, inl, inr}
use Rattle.std.specs.List.{AllByRecursion}
use Rattle.std.proofs.lemmas.Bool.{true≢false}
use Rattle.std.proofs.lemmas.List.Sums.{sum_by-cons, sum_by-append}
use Rattle.ns_types.specs.declared.identity.DevEui.{DevEui}
use Rattle.ns_types.specs.declared.identity.WindowName.{WindowName}
use Rattle.ns_types.specs.Identity.{same_window}
use Rattle.ns_calls.proofs.LocalLemmas.{bool_tells}
use Rattle.ns_calls.proofs.Lists.{find-has, find-none}
use Rattle.ns_calls.proofs.NameLemmas.{same_window-refl}
use Rattle.ns_windows.specs.declared.window.Window.{Window}
use Rattle.ns_windows.specs.Windows.{is_named, is_of, window_named, window_of_frame, count, without, AreApart, AreOfFrames}
use Rattle.ns_windows.proofs.Names.{apart-sym, none_else}
use Rattle.ns_windows.proofs.Frames.{frame-is}
use Rattle.ns_windows.proofs.Passing.{NonePasses, found_cases, none_found, filter-none}

abbrev pub name_of : Window → WindowName
name_of w = w.name

-- what is found passes, and has what all have
pub found-has : (P : Window → Type 0) (test : Window → Bool) (ws : List Window) (w : Window) → AllByRecursion P ws → find test ws ≡ Some w → P w × (test w ≡ true)
found-has P test ws w all at = subst (λ o. IfSome o (λ x. P x × (test x ≡ true))) at (find-has P test ws all)

all_true : (ws : List Window) → AllByRecursion (λ w. Unit {0}) ws
all_true [] = tt
all_true (w ∷ ws) = (tt, all_true ws)

pub found-passes : (test : Window → Bool) (ws : List Window) (w : Window) → find test ws ≡ Some w → test w ≡ true
found-passes test ws w at = (found-has (λ _. Unit {0}) test ws w (all_true ws) at).1

-- a window that is found is also found by its name
pub found-named : (test : Window → Bool) (ws : List Window) (w : Window) → AreApart ws → find test ws ≡ Some w → window_named w.name ws ≡ Some w
found-named test [] w apart at = absurd (cc at)
found-named test (v ∷ vs) w apart at =
    elim (found_cases (test v) v w (find test vs) at) [
      | inl here ↦
          (let is : is_named w.name v ≡ true = ap (λ (u : Window). same_window u.name w.name) here.1 ∙ same_window-refl w.name in
          rw is (ap Some here.1))
      | inr later ↦
          (let differs : is_named w.name v ≡ false = apart-sym w.name v.name (found-has (λ u. is_named v.name u ≡ false) test vs w apart.0 later.1).0 in
          rw differs (found-named test vs w apart.1 later.1))
    ]

pub mapped : (o : Option Window) (name : WindowName) → option_map name_of o ≡ Some name → (w : Window) × (o ≡ Some w) × (w.name ≡ name)
mapped None name at = absurd (cc at)
mapped (Some w) name at = (w, refl, cc at)

pub unmapped : (o : Option Window) → option_map name_of o ≡ None → o ≡ None
unmapped None at = refl
unmapped (Some w) at = absurd (cc at)

-- ---- a window more

pub known-push : (q : List ℕ) (ws : List Window) (w : Window) → window_of_frame w.frame ws ≡ None
    → option_map name_of (window_of_frame q (ws ++ w ∷ [])) ≡ cond (bytes_eq w.frame q) (Some w.name) (option_map name_of (window_of_frame q ws))
known-push q [] w new =
    elim (bool_tells (bytes_eq w.frame q)) [
      | inl is ↦ rw is refl
      | inr isnt ↦ rw isnt refl
    ]
known-push q (v ∷ vs) w new =
    let none = none_found (is_of w.frame) (v ∷ vs) new in
    elim (bool_tells (is_of q v)) [
      | inl is ↦
          elim (bool_tells (bytes_eq w.frame q)) [
            | inl too ↦ absurd (true≢false (sym (ap (λ f. bytes_eq v.frame f) (frame-is q w too) ∙ is) ∙ none.0))
            | inr isnt ↦ rw (is, isnt) refl
          ]
      | inr isnt ↦ rw isnt (known-push q vs w (find-none (is_of w.frame) vs none.1))
    ]

pub count-push : (eui : DevEui) (ws : List Window) (w : Window) → count eui (ws ++ w ∷ []) ≡ count eui ws + cond (w.name.eui.0 == eui.0) 1 0
count-push eui ws w = sum_by-append (λ (x : Window). cond (x.name.eui.0 == eui.0) 1 0) ws (w ∷ []) ∙ ap (λ n. count eui ws + n) (sum_by-cons (λ (x : Window). cond (x.name.eui.0 == eui.0) 1 0) w [] ∙ omega arith)

-- ---- a window less

-- where a frame is that of a window, no other window has it
others-frame : (q : List ℕ) (w : Window) (ws : List Window) → is_of q w ≡ true → AllByRecursion (λ v. is_of w.frame v ≡ false) ws → NonePasses (is_of q) ws
others-frame q w ws is apart = subst (λ f. NonePasses (is_of f) ws) (frame-is q w is) apart

pub known-taken : (q : List ℕ) (name : WindowName) (ws : List Window) (w : Window) → AreApart ws → AreOfFrames ws → window_named name ws ≡ Some w
    → option_map name_of (window_of_frame q (without name ws)) ≡ cond (bytes_eq w.frame q) None (option_map name_of (window_of_frame q ws))
known-taken q name [] w apart frames at = absurd (cc at)
known-taken q name (v ∷ vs) w apart frames at =
    elim (found_cases (is_named name v) v w (window_named name vs) at) [
      | inl here ↦
          (let rest : without name vs ≡ vs = filter-none (is_named name) vs (none_else name v vs here.0 apart.0) in
          elim (bool_tells (is_of q v)) [
            | inl is ↦
                (let too : bytes_eq w.frame q ≡ true = ap (λ (u : Window). is_of q u) (sym here.1) ∙ is in
                rw (here.0, too, rest, find-none (is_of q) vs (others-frame q v vs is frames.0)) refl)
            | inr isnt ↦
                (let too : bytes_eq w.frame q ≡ false = ap (λ (u : Window). is_of q u) (sym here.1) ∙ isnt in
                rw (here.0, too, rest, isnt) refl)
          ])
      | inr later ↦
          elim (bool_tells (is_of q v)) [
            | inl is ↦
                (let other : bytes_eq w.frame q ≡ false = (found-has (λ u. is_of q u ≡ false) (is_named name) vs w (others-frame q v vs is frames.0) later.1).0 in
                rw (later.0, is, other) refl)
            | inr isnt ↦ rw (later.0, isnt) (known-taken q name vs w apart.1 frames.1 later.1)
          ]
    ]

abbrev one_of : DevEui → Window → ℕ
one_of eui w = cond (w.name.eui.0 == eui.0) 1 0

-- so many are left, and one more where the window was of the device
pub count-taken : (eui : DevEui) (name : WindowName) (ws : List Window) (w : Window) → AreApart ws → window_named name ws ≡ Some w
    → count eui (without name ws) + cond (w.name.eui.0 == eui.0) 1 0 ≡ count eui ws
count-taken eui name [] w apart at = absurd (cc at)
count-taken eui name (v ∷ vs) w apart at =
    let all = sum_by-cons (one_of eui) v vs in
    elim (found_cases (is_named name v) v w (window_named name vs) at) [
      | inl here ↦
          (let rest : without name vs ≡ vs = filter-none (is_named name) vs (none_else name v vs here.0 apart.0) in
          let same : one_of eui v ≡ one_of eui w = ap (one_of eui) here.1 in
          rw (here.0, rest) (omega (arith, all, same)))
      | inr later ↦
          (let ih = count-taken eui name vs w apart.1 later.1 in
          let left = sum_by-cons (one_of eui) v (without name vs) in
          rw later.0 (omega (arith, all, left, ih)))
    ]

-- ---- a change that keeps name and frame

pub known-map : (f : Window → Window) → ((w : Window) → (f w).name ≡ w.name) → ((w : Window) → (f w).frame ≡ w.frame) → (q : List ℕ) (ws : List Window)
    → option_map name_of (window_of_frame q (map f ws)) ≡ option_map name_of (window_of_frame q ws)
known-map f names frames q [] = refl
known-map f names frames q (w ∷ ws) =
    let same : is_of q (f w) ≡ is_of q w = ap (λ b. bytes_eq b q) (frames w) in
    elim (bool_tells (is_of q w)) [
      | inl is ↦ rw (same, is) (ap Some (names w))
      | inr isnt ↦ rw (same, isnt) (known-map f names frames q ws)
    ]

pub count-map : (f : Window → Window) → ((w : Window) → (f w).name ≡ w.name) → (eui : DevEui) (ws : List Window) → count eui (map f ws) ≡ count eui ws
count-map f names eui [] = refl
count-map f names eui (w ∷ ws) =
    let same : one_of eui (f w) ≡ one_of eui w = ap (λ (n : WindowName). cond (n.eui.0 == eui.0) 1 0) (names w) in
    omega (arith, sum_by-cons (one_of eui) (f w) (map f ws), sum_by-cons (one_of eui) w ws, same, count-map f names eui ws)
