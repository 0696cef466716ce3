-- The numbers of the entries kept, with one entry more.
use Rattle.std.proofs.Common.{◌≡◌, ℕ, true, false, List, [], ◌∷◌, ◌++◌, map, reverse, sym, ap, ◌∙◌}
use Rattle.std.proofs.lemmas.List.{reverse-append}
use Rattle.ns_calls.specs.declared.call.Entry.{Entry}
use Rattle.ns_kept.specs.Kept.{is_kept}
use Rattle.ns_keep.specs.Tables.{numbers_kept}
use Rattle.std.proofs.lemmas.Bool.{cond-true, cond-false}

abbrev numbers_of : List Entry → List ℕ
numbers_of es = map (λ (e : Entry). e.number) es

module _ (h : List Entry) (e : Entry) (after : List Entry) where
  pub numbers-kept : (numbers : List ℕ) → is_kept h e after ≡ true → reverse numbers ≡ numbers_kept h after → reverse (numbers ++ e.number ∷ []) ≡ numbers_kept h (e ∷ after)
  numbers-kept numbers kept are = reverse-append numbers (e.number ∷ []) ∙ (ap (λ (ns : List ℕ). e.number ∷ ns) are ∙ sym (ap numbers_of (cond-true _ _ _ kept)))

  pub numbers-dropped : (numbers : List ℕ) → is_kept h e after ≡ false → reverse numbers ≡ numbers_kept h after → reverse numbers ≡ numbers_kept h (e ∷ after)
  numbers-dropped numbers dropped are = are ∙ sym (ap numbers_of (cond-false _ _ _ dropped))
