-- Windows of which no two have one name.
use Rattle.std.proofs.Common.{◌≡◌, Bool, true, false, cond, nat_lt, List, [], ◌∷◌, ◌++◌, length, map, refl, sym, ap, ap₂, subst, ◌∙◌, inl, inr}
use Rattle.std.specs.List.{AllByRecursion}
use Rattle.std.proofs.lemmas.Bool.{false≢true, cond_both, false_from_ne_true}
use Rattle.ns_types.specs.declared.identity.WindowName.{WindowName}
use Rattle.ns_types.specs.declared.heard.Heard.{Heard}
use Rattle.ns_types.specs.Identity.{same_window}
use Rattle.ns_calls.proofs.LocalLemmas.{bool_tells}
use Rattle.ns_calls.proofs.NameLemmas.{same_window-refl, same_window-eq}
use Rattle.ns_calls.specs.Entries.{most_copies}
use Rattle.ns_windows.specs.declared.window.Window.{Window}
use Rattle.ns_windows.specs.Windows.{is_named, with_copy, with_copy_in, AreApart}
use Rattle.ns_windows.proofs.Passing.{NonePasses}
use Rattle.ns_windows.proofs.Pairs.{NoTwo-push, NoTwo-map}

-- two names that differ from each other differ the other way round
pub apart-sym : (v w : WindowName) → same_window v w ≡ false → same_window w v ≡ false
apart-sym v w apart =
    false_from_ne_true _ (λ same. false≢true (sym apart ∙ (ap (λ u. same_window v u) (same_window-eq w v same) ∙ same_window-refl v)))

pub same_window-sym : (v w : WindowName) → same_window v w ≡ same_window w v
same_window-sym v w =
    elim (bool_tells (same_window v w)) [
      | inl same ↦ same ∙ sym (ap (λ u. same_window u v) (sym (same_window-eq v w same)) ∙ same_window-refl v)
      | inr differs ↦ differs ∙ sym (apart-sym v w differs)
    ]

-- a window of the name differs from what it is apart from
pub none_else : (name : WindowName) (w : Window) (ws : List Window) → is_named name w ≡ true → AllByRecursion (λ v. is_named w.name v ≡ false) ws → NonePasses (is_named name) ws
none_else name w ws is apart = subst (λ n. NonePasses (is_named n) ws) (same_window-eq w.name name is) apart

-- ---- what keeps the names apart

abbrev pub of_one_name : Window → Window → Bool
of_one_name w v = is_named w.name v

pub apart-map : (f : Window → Window) → ((w : Window) → (f w).name ≡ w.name) → (ws : List Window) → AreApart ws → AreApart (map f ws)
apart-map f keeps ws apart = NoTwo-map of_one_name f (λ w v. ap₂ (λ m n. same_window m n) (keeps v) (keeps w)) ws apart

pub apart-push : (ws : List Window) (w : Window) → AreApart ws → NonePasses (is_named w.name) ws → AreApart (ws ++ w ∷ [])
apart-push ws w apart new = NoTwo-push of_one_name (λ x y differs. apart-sym y.name x.name differs) ws w apart new

-- a copy more leaves the name
pub copy-name : (heard : Heard) (w : Window) → (with_copy heard w).name ≡ w.name
copy-name heard w = cond_both (nat_lt (length w.copies.items) most_copies) _ _ (λ (v : Window). v.name ≡ w.name) (λ _. refl) (λ _. refl)

pub keep_name : (name : WindowName) (heard : Heard) (w : Window) → (cond (is_named name w) (with_copy heard w) w).name ≡ w.name
keep_name name heard w = cond_both (is_named name w) _ _ (λ (v : Window). v.name ≡ w.name) (λ _. copy-name heard w) (λ _. refl)

pub copied-apart : (name : WindowName) (heard : Heard) (ws : List Window) → AreApart ws → AreApart (with_copy_in name heard ws)
copied-apart name heard ws apart = apart-map (λ w. cond (is_named name w) (with_copy heard w) w) (keep_name name heard) ws apart

-- nor does it change the frame
pub copy-frame : (heard : Heard) (w : Window) → (with_copy heard w).frame ≡ w.frame
copy-frame heard w = cond_both (nat_lt (length w.copies.items) most_copies) _ _ (λ (v : Window). v.frame ≡ w.frame) (λ _. refl) (λ _. refl)

pub keep_frame : (name : WindowName) (heard : Heard) (w : Window) → (cond (is_named name w) (with_copy heard w) w).frame ≡ w.frame
keep_frame name heard w = cond_both (is_named name w) _ _ (λ (v : Window). v.frame ≡ w.frame) (λ _. copy-frame heard w) (λ _. refl)

-- what has a name has that of another with it
pub name-alike : (name : WindowName) (w v : Window) → is_named name w ≡ true → of_one_name w v ≡ is_named name v
name-alike name w v is = ap (λ n. is_named n v) (same_window-eq w.name name is)
