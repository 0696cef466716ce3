-- The last boundary of a character, and the front of a text that is cut there.
use Rattle.std.proofs.Common.{refl, ◌≡◌, ℕ, ◌-◌, zero, suc, ◌<◌, ◌≤◌, List, true, false, cond, take, drop, length, ◌++◌, ap, sym, subst, ◌∙◌, leb, arith, inl, inr}
use Rattle.std.specs.Str.{IsCharBoundary}
use Rattle.std.specs.Fmt.{is_char_start}
use Rattle.std.specs.Fmt.Cut.{floor_char_boundary}
use Rattle.std.proofs.lemmas.Bool.{cases_lt}
use Rattle.std.proofs.lemmas.Bool.Decides.{nat_tests}
use Rattle.std.specs.Prelude.{replicate}
use Rattle.std.proofs.lemmas.List.{drop-replicate}
use Rattle.ns_exchange.specs.declared.answer.ResultCode.{ResultCode}
use Rattle.ns_exchange.specs.Front.{first_32, code_of}

abbrev pub IsLastBoundary : List ℕ → ℕ → ℕ → Type 0
IsLastBoundary bs i kept = (kept ≤ i) × IsCharBoundary bs kept × ((j : ℕ) → kept < j → j ≤ i → ¬ (IsCharBoundary bs j))

starts : (b : ℕ) → (128 ≤ b → 192 ≤ b) → is_char_start b ≡ true
starts b h = elim (cases_lt b 128) [ inl low ↦ grind (arith, nat_tests) | inr high ↦ let top : 192 ≤ b = h high in grind (arith, nat_tests) ]

continues : (b : ℕ) → ¬ (128 ≤ b → 192 ≤ b) → is_char_start b ≡ false
continues b h = elim (cases_lt b 128) [
  | inl low ↦ absurd (h (λ high. omega arith))
  | inr high ↦ elim (cases_lt b 192) [ inl mid ↦ grind (arith, nat_tests) | inr top ↦ absurd (h (λ _. top)) ]
]

-- the method's clauses fix its result
pub floor_is : (bs : List ℕ) (i kept : ℕ) → i < length bs → IsLastBoundary bs i kept → floor_char_boundary bs i ≡ kept
unfolding floor_char_boundary
floor_is bs zero kept within last = omega arith
floor_is bs (suc i) kept within last = elim (cases_lt kept (suc i)) [
  | inl below ↦ ap (λ t. cond t (suc i) (floor_char_boundary bs i)) (continues _ (λ h. last.2 (suc i) below (omega arith) (omega arith, λ _. h)))
      ∙ floor_is bs i kept (omega arith) (omega arith, last.1, λ j p q. last.2 j p (omega arith))
  | inr above ↦ let same : kept ≡ suc i = omega arith in
      ap (λ t. cond t (suc i) (floor_char_boundary bs i)) (starts _ ((subst (IsCharBoundary bs) same last.1).1 within)) ∙ sym same
]

pub first_32_cut : (text : List ℕ) (kept : ℕ) → 32 < length text → IsLastBoundary text 32 kept → first_32 text ≡ take kept text
first_32_cut text kept long last =
    let h : leb (length text) 32 ≡ false = grind (arith, nat_tests) in
    rw h (ap (λ n. take n text) (floor_is text 32 kept long last))

-- the front of a text over zeros
pub code_of-front : (text front : List ℕ) → front ≡ first_32 text
    → (let made : ResultCode = record { len = length front; room = front ++ drop (length front) (replicate 32 0) } in made ≡ code_of text)
code_of-front text front is =
    let zeros : List ℕ = replicate 32 0 in
    let left : drop (length front) zeros ≡ replicate (32 - length front) 0 = drop-replicate (length front) 32 0 in
    rw (left, is) refl
