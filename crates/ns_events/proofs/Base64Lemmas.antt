-- Base64 in groups of three bytes.
use Rattle.std.proofs.Common.{◌≡◌, ℕ, zero, suc, ◌+◌, ◌-◌, ◌*◌, ◌/◌, ◌%◌, ◌<◌, ◌≤◌, Bool, true, false, ◌&&◌, List, [], ◌∷◌, ◌++◌, length, get_or, drop, replicate, refl, ap, sym, ◌∙◌, append_assoc, drop-cons, arith}
use Rattle.std.specs.Prelude.{nat_lt, slice_index, codes}
use Rattle.std.specs.List.{list_all}
use Rattle.std.proofs.lemmas.Bool.Decides.{nat_tests}
use Rattle.base64.specs.Rfc4648.{encode_group, encode_symbols, padding_len}
use Rattle.ns_events.specs.Base64.{symbols, base64_text}

-- what is below k at each place of a list is so at any, and zero past its end
pub below_at : (xs : List ℕ) (k : ℕ) → 0 < k → list_all (λ b. nat_lt b k) xs ≡ true → (i : ℕ) → get_or xs i 0 < k
below_at [] k some all i = some
below_at (x ∷ xs) k some all zero = first (nat_lt x k) refl all
  where
    first : (b : Bool) → nat_lt x k ≡ b → (b && list_all (λ b. nat_lt b k) xs) ≡ true → x < k
    first true is all = grind (arith, nat_tests)
    first false is all = absurd (cc all)
below_at (x ∷ xs) k some all (suc i) = below_at xs k some (rest (nat_lt x k) all) i
  where
    rest : (b : Bool) → (b && list_all (λ b. nat_lt b k) xs) ≡ true → list_all (λ b. nat_lt b k) xs ≡ true
    rest true all = all
    rest false all = absurd (cc all)

same_padding : (n : ℕ) → padding_len (suc (suc (suc n))) ≡ padding_len n
same_padding n = ap (λ r. (3 - r) % 3) (omega arith)

-- three bytes more before others
base64-group : (a b c : ℕ) (rest : List ℕ) → base64_text (a ∷ b ∷ c ∷ rest) ≡ encode_group symbols a b c ++ base64_text rest
unfolding base64_text encode_symbols
base64-group a b c rest =
    ap (λ n. (encode_group symbols a b c ++ encode_symbols symbols rest) ++ replicate n 61) (same_padding (length rest))
    ∙ append_assoc (encode_group symbols a b c) (encode_symbols symbols rest) (replicate (padding_len (length rest)) 61)

-- the last byte, or the last two, with their padding
pub base64-one : (xs : List ℕ) → 1 ≤ length xs → length xs < 2
    → base64_text xs ≡ slice_index symbols (get_or xs 0 0 / 4) ∷ slice_index symbols (get_or xs 0 0 % 4 * 16) ∷ codes "=="
unfolding base64_text encode_symbols
base64-one [] least below = absurd (omega arith)
base64-one (a ∷ []) least below = refl
base64-one (a ∷ b ∷ rest) least below = absurd (omega arith)

pub base64-two : (xs : List ℕ) → 2 ≤ length xs → length xs < 3
    → base64_text xs ≡ slice_index symbols (get_or xs 0 0 / 4) ∷ slice_index symbols (get_or xs 0 0 % 4 * 16 + get_or xs 1 0 / 16) ∷ slice_index symbols (get_or xs 1 0 % 16 * 4) ∷ codes "="
unfolding base64_text encode_symbols
base64-two [] least below = absurd (omega arith)
base64-two (a ∷ []) least below = absurd (omega arith)
base64-two (a ∷ b ∷ []) least below = refl
base64-two (a ∷ b ∷ c ∷ rest) least below = absurd (omega arith)

-- three bytes of a list, and those behind them
three : (xs : List ℕ) (k : ℕ) → k + 3 ≤ length xs → drop k xs ≡ get_or xs k 0 ∷ get_or xs (k + 1) 0 ∷ get_or xs (k + 2) 0 ∷ drop (k + 3) xs
three xs k within =
    drop-cons xs k 0 (omega arith)
    ∙ ap (λ l. get_or xs k 0 ∷ l) (at (k + 1) (suc k) (omega arith) (omega arith) ∙ ap (λ l. get_or xs (k + 1) 0 ∷ l) (at (k + 2) (suc (k + 1)) (omega arith) (omega arith) ∙ ap (λ l. get_or xs (k + 2) 0 ∷ drop l xs) (next k)))
  where
    next : (k : ℕ) → suc (k + 2) ≡ k + 3
    next k = omega arith

    at : (i j : ℕ) → j ≡ i → i < length xs → drop j xs ≡ get_or xs i 0 ∷ drop (suc i) xs
    at i j same inside = ap (λ n. drop n xs) same ∙ drop-cons xs i 0 inside

-- the base64 of what is left of a list, one group further
pub base64_more : (old whole now next xs : List ℕ) (i : ℕ) → 3 * i + 3 ≤ length xs → old ++ base64_text whole ≡ now ++ base64_text (drop (3 * i) xs)
    → next ≡ now ++ encode_group symbols (get_or xs (3 * i) 0) (get_or xs (3 * i + 1) 0) (get_or xs (3 * i + 2) 0)
    → old ++ base64_text whole ≡ next ++ base64_text (drop (3 * (i + 1)) xs)
base64_more old whole now next xs i within before step =
    let group = encode_group symbols (get_or xs (3 * i) 0) (get_or xs (3 * i + 1) 0) (get_or xs (3 * i + 2) 0) in
    before ∙ ap (λ l. now ++ base64_text l) (three xs (3 * i) within) ∙ ap (λ l. now ++ l) (base64-group _ _ _ _)
    ∙ sym (append_assoc now group (base64_text (drop (3 * i + 3) xs))) ∙ ap (λ l. l ++ base64_text (drop (3 * i + 3) xs)) (sym step)
    ∙ ap (λ n. next ++ base64_text (drop n xs)) (omega arith)
