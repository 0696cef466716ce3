-- The first place of a byte.
use Rattle.std.proofs.Common.{◌≡◌, ℕ, cond, List, length, slice_index, Option, Some, None, position, sym, ap, ◌∙◌, arith, eqb}
use Rattle.std.specs.List.{position_or_len}
use Rattle.std.proofs.lemmas.Bool.{false_from_ne_true, lt-ltb, le-ltb}
use Rattle.std.proofs.lemmas.List.Sums.{position_or_len_is}
use Rattle.memchr.specs.Find.{IsFirstByte, is_byte}

pub first_byte : (b : ℕ) (xs : List ℕ) (r : Option ℕ) → IsFirstByte (is_byte b) xs r → r ≡ position (λ x. eqb x b) xs
first_byte b xs None nowhere =
    let at = position_or_len_is (λ x. eqb x b) xs (length xs) 0 (omega arith) (λ k less. false_from_ne_true (eqb (slice_index xs k) b) (nowhere k (omega arith) less)) (λ past. absurd (omega (arith, past))) in
    ap (λ t. cond {A = Option ℕ} t (Some (position_or_len (λ x. eqb x b) xs)) None) (sym (le-ltb (position_or_len (λ x. eqb x b) xs) (length xs) (omega (arith, at))))
first_byte b xs (Some k) found =
    let at = position_or_len_is (λ x. eqb x b) xs k 0 (omega (arith, found.0.high)) (λ j less. false_from_ne_true (eqb (slice_index xs j) b) (found.0.before j (omega arith) less)) (λ _. found.1) in
    ap Some (sym at) ∙ ap (λ t. cond {A = Option ℕ} t (Some (position_or_len (λ x. eqb x b) xs)) None) (sym (lt-ltb (position_or_len (λ x. eqb x b) xs) (length xs) (omega (arith, at, found.0.high))))
