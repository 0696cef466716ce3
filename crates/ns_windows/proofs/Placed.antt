-- Entries of windows by name.
use Rattle.std.proofs.Common.{◌≡◌, ℕ, zero, suc, ◌+◌, ◌≤◌, ◌<◌, ◌==◌, ◌&&◌, Bool, true, false, cond, List, [], ◌∷◌, length, filter, drop, slice_get, Option, None, Some, is_some, IfSome, refl, sym, ap, subst, ◌∙◌, arith, inl, inr}
use Rattle.std.specs.List.{AllByRecursion, IsDistinct}
use Rattle.std.specs.Map.{lookup, keys_of, values_of}
use Rattle.std.specs.Option.{option_map_or}
use Rattle.std.proofs.lemmas.Bool.{true≢false}
use Rattle.std.proofs.lemmas.Bool.Decides.{nat_tests}
use Rattle.std.proofs.lemmas.List.{length-map}
use Rattle.indexmap.specs.IndexMap.{set_value_at}
use Rattle.ns_types.specs.declared.identity.WindowName.{WindowName}
use Rattle.ns_types.specs.Identity.{same_window}
use Rattle.ns_types.specs.contracts.identity.WindowNamePartialEq.TheImpl as name_eq
use Rattle.ns_calls.proofs.NameLemmas.{same_window-eq}
use Rattle.ns_windows.specs.declared.window.Window.{Window}
use Rattle.ns_windows.specs.Windows.{is_named}
use Rattle.ns_windows.specs.Places.{opened, window_at, leading, count_in}
use Rattle.ns_windows.proofs.Names.{same_window-sym}
use Rattle.ns_windows.proofs.Passing.{NonePasses, found_cases}

abbrev pub Entries : Type 0
Entries = List (WindowName × Option Window)

abbrev pub AreOwn : Entries → Type 0
AreOwn es = AllByRecursion (λ e. IfSome e.1 (λ w. w.name ≡ e.0)) es

-- ---- the test by which names are compared

and_four : (a b c d : Bool) → (a && (b && (c && d))) ≡ (((a && b) && c) && d)
and_four a b c d = grind arith

pub names_eq : (name_eq.ghosts).eq ≡ same_window
names_eq = λ i n w. and_four (n.eui.0 == w.eui.0) (n.session == w.session) (n.fcnt == w.fcnt) (n.round == w.round) i

-- ---- the window at a place

pub at-some : (ps : List (Option Window)) (i : ℕ) (o : Option Window) → slice_get ps i ≡ Some o → window_at ps i ≡ o
at-some [] i o at = absurd (cc at)
at-some (p ∷ ps) zero o at = cc at
at-some (p ∷ ps) (suc i) o at = at-some ps i o at

pub set-outside : (es : Entries) (i : ℕ) (v : Option Window) → slice_get (values_of es) i ≡ None → es ≡ set_value_at es i v
set-outside [] i v at = refl
set-outside (e ∷ es) zero v at = absurd (cc at)
set-outside (e ∷ es) (suc i) v at = ap (λ fs. e ∷ fs) (set-outside es i v at)

pub entries-length : (es : Entries) → length (values_of es) ≡ length es
entries-length es = length-map es (λ (e : WindowName × Option Window). e.1)

-- ---- the first window

pub leading-open : (ps : List (Option Window)) (i : ℕ) → is_some (window_at ps i) ≡ true → leading (drop i ps) ≡ 0
leading-open [] i is = absurd (true≢false (sym is))
leading-open (None ∷ ps) zero is = absurd (true≢false (sym is))
leading-open (Some w ∷ ps) zero is = refl
leading-open (p ∷ ps) (suc i) is = leading-open ps i is

pub leading-empty : (ps : List (Option Window)) (i : ℕ) → i < length ps → is_some (window_at ps i) ≡ false → leading (drop i ps) ≡ suc (leading (drop (suc i) ps))
leading-empty [] i within is = absurd (omega (arith, within))
leading-empty (None ∷ ps) zero within is = refl
leading-empty (Some w ∷ ps) zero within is = absurd (true≢false is)
leading-empty (p ∷ ps) (suc i) within is = leading-empty ps i (omega (arith, within)) is

pub leading-end : (ps : List (Option Window)) (i : ℕ) → length ps ≤ i → leading (drop i ps) ≡ 0
leading-end [] zero past = refl
leading-end [] (suc i) past = refl
leading-end (p ∷ ps) zero past = absurd (omega (arith, past))
leading-end (p ∷ ps) (suc i) past = leading-end ps i (omega (arith, past))

pub leading-within : (ps : List (Option Window)) → leading ps ≤ length ps
leading-within [] = omega arith
leading-within (None ∷ ps) = omega (arith, leading-within ps)
leading-within (Some w ∷ ps) = omega arith

-- ---- without the empty places

abbrev pub is_filled : WindowName × Option Window → Bool
is_filled e = is_some e.1

pub filled-open : (es : Entries) → opened (filter is_filled es) ≡ opened es
filled-open [] = refl
filled-open ((k, None) ∷ es) = filled-open es
filled-open ((k, Some w) ∷ es) = ap (λ ws. w ∷ ws) (filled-open es)

pub filled-leading : (es : Entries) → leading (values_of (filter is_filled es)) ≡ 0
filled-leading [] = refl
filled-leading ((k, None) ∷ es) = filled-leading es
filled-leading ((k, Some w) ∷ es) = refl

pub filled-length : (es : Entries) → length (filter is_filled es) ≡ length (opened (filter is_filled es))
filled-length [] = refl
filled-length ((k, None) ∷ es) = filled-length es
filled-length ((k, Some w) ∷ es) = ap suc (filled-length es)

-- a window at its own name has another one, where that name differs
own-differs : (name k : WindowName) (w : Window) → w.name ≡ k → same_window name k ≡ false → is_named name w ≡ false
own-differs name k w own differs = ap (λ m. same_window m name) own ∙ same_window-sym k name ∙ differs

pub filled-absent : (name : WindowName) (es : Entries) → AreOwn es → NonePasses (is_named name) (opened es) → lookup (same_window name) (filter is_filled es) ≡ None
filled-absent name [] own none = refl
filled-absent name ((k, None) ∷ es) own none = filled-absent name es own.1 none
filled-absent name ((k, Some w) ∷ es) own none =
    let differs : same_window name k ≡ false = same_window-sym name k ∙ ap (λ m. same_window m name) (sym own.0) ∙ none.0 in
    rw differs (filled-absent name es own.1 none.1)

-- ---- what is found by name

cond_none : {X : Type 0} (b : Bool) (x : X) (o : Option X) → cond b (Some x) o ≡ None → (b ≡ false) × (o ≡ None)
cond_none true x o none = absurd (cc none)
cond_none false x o none = (refl, none)

pub unknown-none : (name : WindowName) (es : Entries) → AreOwn es → lookup (same_window name) es ≡ None → NonePasses (is_named name) (opened es)
unknown-none name [] own none = tt
unknown-none name ((k, None) ∷ es) own none = unknown-none name es own.1 (cond_none (same_window name k) None (lookup (same_window name) es) none).1
unknown-none name ((k, Some w) ∷ es) own none =
    let c = cond_none (same_window name k) (Some w) (lookup (same_window name) es) none in
    (own-differs name k w own.0 c.0, unknown-none name es own.1 c.1)

-- where a name is at one place, no other place has its window
others-none : (name : WindowName) (es : Entries) → AreOwn es → AllByRecursion (λ k. same_window name k ≡ false) (keys_of es) → NonePasses (is_named name) (opened es)
others-none name [] own apart = tt
others-none name ((k, None) ∷ es) own apart = others-none name es own.1 apart.1
others-none name ((k, Some w) ∷ es) own apart = (own-differs name k w own.0 apart.0, others-none name es own.1 apart.1)

apart-parts : (k : WindowName) (ks : List WindowName) → IsDistinct same_window (k ∷ ks) → AllByRecursion (λ j. same_window k j ≡ false) ks × IsDistinct same_window ks
unfolding IsDistinct
apart-parts k ks apart = apart

pub empty-none : (name : WindowName) (es : Entries) (o : Option Window) → AreOwn es → IsDistinct same_window (keys_of es) → lookup (same_window name) es ≡ Some o → option_map_or (is_named name) o false ≡ false
    → NonePasses (is_named name) (opened es)
empty-none name [] o own apart at fails = absurd (cc at)
empty-none name ((k, None) ∷ es) o own apart at fails =
    let parts = apart-parts k (keys_of es) apart in
    elim (found_cases (same_window name k) None o (lookup (same_window name) es) at) [
      | inl here ↦ subst (λ n. NonePasses (is_named n) (opened es)) (sym (same_window-eq name k here.0)) (others-none k es own.1 parts.0)
      | inr later ↦ empty-none name es o own.1 parts.1 later.1 fails
    ]
empty-none name ((k, Some w) ∷ es) o own apart at fails =
    let parts = apart-parts k (keys_of es) apart in
    elim (found_cases (same_window name k) (Some w) o (lookup (same_window name) es) at) [
      | inl here ↦
          (let is : same_window w.name name ≡ true = ap (λ m. same_window m name) own.0 ∙ same_window-sym k name ∙ here.0 in
          let isnt : same_window w.name name ≡ false = ap (λ p. option_map_or (is_named name) p false) here.1 ∙ fails in
          absurd (true≢false (sym is ∙ isnt)))
      | inr later ↦ (own-differs name k w own.0 later.0, empty-none name es o own.1 parts.1 later.1 fails)
    ]

-- ---- the numbers of the devices

-- a number at a new device
pub count-new : (old new : List (ℕ × ℕ)) (key : ℕ) → ((q : ℕ) → lookup (λ a. q == a) new ≡ cond (key == q) (Some 1) (lookup (λ a. q == a) old)) → count_in old key ≡ 0
    → (k : ℕ) → count_in new k ≡ count_in old k + cond (key == k) 1 0
count-new old new key writes unknown k = grind (arith, nat_tests, writes k)
