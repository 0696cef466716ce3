-- The entries of some numbers and the others, with one entry more.
use Rattle.std.proofs.Common.{◌≡◌, ℕ, ◌+◌, ◌<◌, Bool, true, false, not, ◌==◌, cond, List, [], ◌∷◌, ◌++◌, length, take, drop, get_or, map, filter, slice_get, Some, refl, sym, ap, ◌∙◌}
use Rattle.std.specs.List.{list_any}
use Rattle.std.proofs.lemmas.Bool.{eq-eqb, false_from_ne_true}
use Rattle.std.proofs.lemmas.Map.Keys.{any_passes_from_place}
use Rattle.std.proofs.lemmas.List.{append-nil, length-map, map-append, take-append-drop, take_more, drop_more}
use Rattle.std.proofs.lemmas.List.Elements.{filter-append}
use Rattle.ns_calls.specs.declared.call.Entry.{Entry}
use Rattle.ns_journal.specs.State.{is_numbered, with_numbers, without_numbers, AreNumbersOf}

got_at : {X : Type 0} (xs ys : List X) (y : X) → slice_get (xs ++ y ∷ ys) (length xs) ≡ Some y
got_at [] ys y = refl
got_at (x ∷ xs) ys y = got_at xs ys y

-- a number that is met is one of them
pub got_any : (stay : List ℕ) (i n : ℕ) → slice_get stay i ≡ Some n → list_any (λ m. m == n) stay ≡ true
got_any stay i n got = any_passes_from_place (λ m. m == n) stay i n got (eq-eqb n n refl)

module _ (stay : List ℕ) (entries : List Entry) (i : ℕ) (e : Entry) (within : i < length entries) (is : e ≡ get_or entries i e) where
  front : take (i + 1) entries ≡ take i entries ++ e ∷ []
  front = take_more entries i e within ∙ ap (λ (x : Entry). take i entries ++ x ∷ []) (sym is)

  rest : drop i entries ≡ e ∷ drop (i + 1) entries
  rest = drop_more entries i e within ∙ ap (λ (x : Entry). x ∷ drop (i + 1) entries) (sym is)

  more : (test : Entry → Bool) → filter test (take (i + 1) entries) ≡ filter test (take i entries) ++ cond (test e) (e ∷ []) []
  more test = ap (filter test) front ∙ filter-append test (take i entries) (e ∷ [])

  pub with-more : is_numbered stay e ≡ true → with_numbers stay (take (i + 1) entries) ≡ with_numbers stay (take i entries) ++ e ∷ []
  with-more stays = more (is_numbered stay) ∙ ap (λ b. with_numbers stay (take i entries) ++ cond b (e ∷ []) []) stays

  pub without-same : is_numbered stay e ≡ true → without_numbers stay (take (i + 1) entries) ≡ without_numbers stay (take i entries)
  without-same stays = rw (more (λ x. not (is_numbered stay x)), stays) (append-nil (without_numbers stay (take i entries)))

  pub with-same : is_numbered stay e ≡ false → with_numbers stay (take (i + 1) entries) ≡ with_numbers stay (take i entries)
  with-same goes = rw (more (is_numbered stay), goes) (append-nil (with_numbers stay (take i entries)))

  pub without-more : is_numbered stay e ≡ false → without_numbers stay (take (i + 1) entries) ≡ without_numbers stay (take i entries) ++ e ∷ []
  without-more goes = more (λ x. not (is_numbered stay x)) ∙ ap (λ b. without_numbers stay (take i entries) ++ cond (not b) (e ∷ []) []) goes

  -- the number of an entry that stays is the next one
  pub at_next : AreNumbersOf entries stay → is_numbered stay e ≡ true → slice_get stay (length (with_numbers stay (take i entries))) ≡ Some e.number
  at_next numbers stays =
      let number : Entry → ℕ = λ x. x.number in
      let before : List Entry = with_numbers stay (take i entries) in
      let after : List Entry = with_numbers stay (drop (i + 1) entries) in
      let all : before ++ e ∷ after ≡ with_numbers stay entries =
      sym (ap (with_numbers stay) (sym (take-append-drop i entries) ∙ ap (λ xs. take i entries ++ xs) rest)
      ∙ (filter-append (is_numbered stay) (take i entries) (e ∷ drop (i + 1) entries)
      ∙ ap (λ b. before ++ cond b (e ∷ after) after) stays)) in
      ap (λ ns. slice_get ns (length before)) (sym numbers ∙ (sym (ap (map number) all) ∙ map-append number before (e ∷ after)))
      ∙ (ap (λ n. slice_get (map number before ++ e.number ∷ map number after) n) (sym (length-map before number))
      ∙ got_at (map number before) (map number after) e.number)

  -- an entry whose number is not the next one goes
  pub goes : AreNumbersOf entries stay → (next : ℕ) → length (with_numbers stay (take i entries)) ≡ next → (slice_get stay next ≡ Some e.number → ⊥) → is_numbered stay e ≡ false
  goes numbers next met differs = false_from_ne_true _ (λ stays. differs (sym (ap (slice_get stay) met) ∙ at_next numbers stays))

-- the places of two lists that are the same from a place on
pub same_rest : (xs ys : List Entry) (i : ℕ) (e : Entry) → i < length xs → i < length ys → drop i xs ≡ drop i ys → e ≡ get_or xs i e
    → (e ≡ get_or ys i e) × (drop (i + 1) xs ≡ drop (i + 1) ys)
same_rest xs ys i e in_xs in_ys same is =
    let x = drop_more xs i e in_xs in
    let y = drop_more ys i e in_ys in
    (cc, cc)

-- no numbers are those of no entries
pub no_numbers : (entries : List Entry) → AreNumbersOf entries []
no_numbers [] = refl
no_numbers (e ∷ entries) = no_numbers entries
