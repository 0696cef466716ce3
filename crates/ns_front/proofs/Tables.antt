-- What look-ups find in a table of bounded size once an entry was put there.
use Rattle.std.proofs.Common.{◌≡◌, ◌≢◌, ℕ, zero, suc, ◌+◌, ◌-◌, ◌≤◌, Bool, true, false, nat_eq, ◌⊎◌, inl, inr, List, [], ◌∷◌, length, take, Option, Some, None, refl, sym, ap, subst, ◌∙◌, arith}
use Rattle.std.specs.Prelude.{cond, slice_get}
use Rattle.std.specs.Option.{unwrap_or, option_map_or}
use Rattle.std.specs.List.{IsDistinct, AllByRecursion}
use Rattle.std.specs.Map.{keys_of, lookup, lookup_entry, remove_entry}
use Rattle.std.specs.Cmp.{nat_eq_equiv}
use Rattle.std.proofs.lemmas.Bool.{cases_eq, cases_lt}
use Rattle.std.proofs.lemmas.Bool.Decides.{nat_tests}
use Rattle.std.proofs.lemmas.List.{take_all}
use Rattle.std.proofs.lemmas.Map.{lookup-remove_entry}
use Rattle.std.proofs.lemmas.Map.Keys.{IsDistinct-head, IsDistinct-tail}
use Rattle.std.proofs.lemmas.Map.Entries.{lookup_from_place}
use Rattle.lru.specs.LruCache.{LruCache, IsValid, last_entry, put_entries}
use Rattle.lru.proofs.CallerLemmas.{lookup-put_entries, Contains-lookup_entry}

module _ {X : Type 0} where
  -- a key at some place is not equal to one that differs from all
  apart_at : (k : ℕ) (es : List (ℕ × X)) (i g : ℕ) (a : X) → AllByRecursion (λ y. nat_eq k y ≡ false) (keys_of es) → slice_get es i ≡ Some (g, a) → nat_eq k g ≡ false
  apart_at k [] i g a all at = cc
  apart_at k (e ∷ es) zero g a all at = let same : e ≡ (g, a) = ap (λ o. unwrap_or o e) at in subst (λ (p : ℕ × X). nat_eq k p.0 ≡ false) same all.0
  apart_at k (e ∷ es) (suc i) g a all at = apart_at k es i g a all.1 at

  -- all but the last, by the last one's key
  last_removed : (es : List (ℕ × X)) (n g : ℕ) (a : X) → length es ≡ n + 1 → IsDistinct nat_eq (keys_of es) → slice_get es n ≡ Some (g, a) → take n es ≡ remove_entry (nat_eq g) es
  last_removed [] n g a len d at = absurd (omega arith)
  last_removed (e ∷ []) zero g a len d at =
      let same : e ≡ (g, a) = ap (λ o. unwrap_or o e) at in
      let there : nat_eq g e.0 ≡ true = ap (λ (p : ℕ × X). nat_eq g p.0) same ∙ nat_eq_equiv.refl g in
      sym (ap (λ b. cond b [] (e ∷ [])) there)
  last_removed (e ∷ f ∷ fs) zero g a len d at = absurd (omega arith)
  last_removed (e ∷ []) (suc n) g a len d at = absurd (omega arith)
  last_removed (e ∷ f ∷ fs) (suc n) g a len d at =
      let apart : nat_eq e.0 g ≡ false = apart_at e.0 (f ∷ fs) n g a (IsDistinct-head nat_eq e.0 (keys_of (f ∷ fs)) d) at in
      let other : nat_eq g e.0 ≡ false = nat_eq_equiv.symm g e.0 ∙ apart in
      ap (λ rest. e ∷ rest) (last_removed (f ∷ fs) n g a (omega arith) (IsDistinct-tail nat_eq e.0 (keys_of (f ∷ fs)) d) at)
      ∙ sym (ap (λ b. cond b (f ∷ fs) (e ∷ remove_entry (nat_eq g) (f ∷ fs))) other)

  last_there : (es : List (ℕ × X)) (n : ℕ) → length es ≡ n + 1 → (p : ℕ × X) × (slice_get es n ≡ Some p)
  last_there [] n len = absurd (omega arith)
  last_there (e ∷ es) zero len = (e, refl)
  last_there (e ∷ es) (suc n) len = last_there es n (omega arith)

  removed : (es : List (ℕ × X)) (g q : ℕ) → IsDistinct nat_eq (keys_of es) → lookup (nat_eq q) (remove_entry (nat_eq g) es) ≡ cond (nat_eq g q) None (lookup (nat_eq q) es)
  removed es g q d = lookup-remove_entry nat_eq_equiv (nat_eq g) (nat_eq_equiv.congr g) q es d

  -- no entry, no value
  no_entry : (test : ℕ → Bool) (es : List (ℕ × X)) → lookup test es ≡ None → lookup_entry test es ≡ None
  no_entry test [] h = refl
  no_entry test (f ∷ es) h = (elim (test f.0) as (λ b. cond b (Some f.1) (lookup test es) ≡ None → cond b (Some f) (lookup_entry test es) ≡ None) [
    | true ↦ λ is. cc
    | false ↦ λ is. no_entry test es is
  ]) h

  no_value : (test : ℕ → Bool) (es : List (ℕ × X)) → lookup_entry test es ≡ None → lookup test es ≡ None
  no_value test [] h = refl
  no_value test (f ∷ es) h = (elim (test f.0) as (λ b. cond b (Some f) (lookup_entry test es) ≡ None → cond b (Some f.1) (lookup test es) ≡ None) [
    | true ↦ λ is. cc
    | false ↦ λ is. no_value test es is
  ]) h

  module _ (c : LruCache ℕ X) (k : ℕ) (v : X) where
    abbrev after : Option (ℕ × X) → List (ℕ × X)
    after o = option_map_or (λ e. (e.0, v) ∷ remove_entry (nat_eq k) c.entries) o ((k, v) ∷ take (c.cap - 1) c.entries)

    -- where the key is known, each other one keeps its value
    known : IsDistinct nat_eq (keys_of c.entries) → (e : ℕ × X) → lookup_entry (nat_eq k) c.entries ≡ Some e → (q : ℕ) → q ≢ k
        → lookup (nat_eq q) (put_entries nat_eq c k v) ≡ lookup (nat_eq q) c.entries
    known d e is q ne =
        let key : nat_eq k e.0 ≡ true = (Contains-lookup_entry (nat_eq k) c.entries e is).1 in
        let apart : nat_eq q e.0 ≡ false = grind (arith, nat_tests) in
        let other : nat_eq k q ≡ false = grind (arith, nat_tests) in
        ap (λ o. lookup (nat_eq q) (after o)) is
        ∙ ap (λ b. cond b (Some v) (lookup (nat_eq q) (remove_entry (nat_eq k) c.entries))) apart
        ∙ removed c.entries k q d
        ∙ ap (λ b. cond b None (lookup (nat_eq q) c.entries)) other

    further : lookup_entry (nat_eq k) c.entries ≡ None → (q : ℕ) → q ≢ k → lookup (nat_eq q) (put_entries nat_eq c k v) ≡ lookup (nat_eq q) (take (c.cap - 1) c.entries)
    further is q ne =
        let apart : nat_eq q k ≡ false = grind (arith, nat_tests) in
        ap (λ o. lookup (nat_eq q) (after o)) is
        ∙ ap (λ b. cond b (Some v) (lookup (nat_eq q) (take (c.cap - 1) c.entries))) apart

    by_entry : IsDistinct nat_eq (keys_of c.entries) → lookup (nat_eq k) c.entries ≡ Some v → (q : ℕ) → q ≢ k → (o : Option (ℕ × X)) → lookup_entry (nat_eq k) c.entries ≡ o
        → lookup (nat_eq q) (put_entries nat_eq c k v) ≡ lookup (nat_eq q) c.entries
    by_entry d is q ne None h = let no : lookup (nat_eq k) c.entries ≡ None = no_value (nat_eq k) c.entries h in absurd cc
    by_entry d is q ne (Some e) h = known d e h q ne

    -- where the key has this value already, all values stay
    pub same : IsDistinct nat_eq (keys_of c.entries) → lookup (nat_eq k) c.entries ≡ Some v → (q : ℕ) → lookup (nat_eq q) (put_entries nat_eq c k v) ≡ lookup (nat_eq q) c.entries
    same d is q = elim (cases_eq q k) [
      | inl e ↦ subst (λ (j : ℕ). lookup (nat_eq j) (put_entries nat_eq c k v) ≡ lookup (nat_eq j) c.entries) (sym e) (lookup-put_entries nat_eq c k v nat_eq_equiv ∙ sym is)
      | inr ne ↦ by_entry d is q ne (lookup_entry (nat_eq k) c.entries) refl
    ]

    -- the last entry, as it is before it goes
    abbrev pub IsLost : ℕ → Type 0
    IsLost g = (lookup (nat_eq k) c.entries ≡ None) × ((length c.entries ≡ c.cap) × ((a : X) × (last_entry c.entries ≡ Some (g, a))))

    without_last : IsValid nat_eq c → length c.entries ≡ c.cap → (p : ℕ × X) → last_entry c.entries ≡ Some p → (q : ℕ)
        → lookup (nat_eq q) (take (c.cap - 1) c.entries) ≡ cond (nat_eq p.0 q) None (lookup (nat_eq q) c.entries)
    without_last valid full p last q =
        let some = valid.2 in
        let len : length c.entries ≡ c.cap - 1 + 1 = omega (arith, full, some) in
        let at : slice_get c.entries (c.cap - 1) ≡ Some p = sym (ap (λ n. slice_get c.entries (n - 1)) full) ∙ last in
        ap (lookup (nat_eq q)) (last_removed c.entries (c.cap - 1) p.0 p.1 len valid.0 at) ∙ removed c.entries p.0 q valid.0

    pub lost : IsValid nat_eq c → (g : ℕ) → IsLost g → lookup (nat_eq g) (put_entries nat_eq c k v) ≡ None
    lost valid g (absent, (full, (a, last))) =
        let there : lookup (nat_eq g) c.entries ≡ Some a = lookup_from_place nat_eq_equiv c.entries (length c.entries - 1) g a valid.0 last in
        let ne : g ≢ k = λ (e : g ≡ k). (let both : lookup (nat_eq k) c.entries ≡ Some a = subst (λ (j : ℕ). lookup (nat_eq j) c.entries ≡ Some a) e there in cc) in
        further (no_entry (nat_eq k) c.entries absent) g ne
        ∙ without_last valid full (g, a) last g
        ∙ ap (λ b. cond b None (lookup (nat_eq g) c.entries)) (nat_eq_equiv.refl g)

    full_kept : IsValid nat_eq c → lookup_entry (nat_eq k) c.entries ≡ None → c.cap ≤ length c.entries → (q : ℕ) → q ≢ k
        → IsLost q ⊎ (lookup (nat_eq q) (put_entries nat_eq c k v) ≡ lookup (nat_eq q) c.entries)
    full_kept valid h most q ne =
        let room = valid.1 in
        let some = valid.2 in
        let full : length c.entries ≡ c.cap = omega (arith, room, most) in
        let (p, last) = last_there c.entries (length c.entries - 1) (omega (arith, most, some)) in
        elim (cases_eq p.0 q) [
          | inl e ↦ inl (no_value (nat_eq k) c.entries h, (full, (p.1, subst (λ (j : ℕ). last_entry c.entries ≡ Some (j, p.1)) e last)))
          | inr other ↦ let apart : nat_eq p.0 q ≡ false = grind (arith, nat_tests) in
              inr (further h q ne ∙ without_last valid full p last q ∙ ap (λ b. cond b None (lookup (nat_eq q) c.entries)) apart)
        ]

    kept_by : IsValid nat_eq c → (q : ℕ) → q ≢ k → (o : Option (ℕ × X)) → lookup_entry (nat_eq k) c.entries ≡ o
        → IsLost q ⊎ (lookup (nat_eq q) (put_entries nat_eq c k v) ≡ lookup (nat_eq q) c.entries)
    kept_by valid q ne (Some e) h = inr (known valid.0 e h q ne)
    kept_by valid q ne None h = elim (cases_lt (length c.entries) c.cap) [
      | inl less ↦ inr (further h q ne ∙ ap (lookup (nat_eq q)) (take_all (c.cap - 1) c.entries (omega (arith, less))))
      | inr most ↦ full_kept valid h most q ne
    ]

    -- each other key keeps its value, but for the last where there is no room for a further one
    pub kept : IsValid nat_eq c → (q : ℕ) → q ≢ k → IsLost q ⊎ (lookup (nat_eq q) (put_entries nat_eq c k v) ≡ lookup (nat_eq q) c.entries)
    kept valid q ne = kept_by valid q ne (lookup_entry (nat_eq k) c.entries) refl
