-- The value of decimal digits, digit by digit.
use Rattle.std.proofs.Common.{◌≡◌, ℕ, ◌+◌, ◌-◌, ◌*◌, ◌<◌, ◌≤◌, true, false, List, [], ◌∷◌, ◌++◌, length, take, drop, get_or, fold, refl, sym, ap, ◌∙◌, arith, take-append-drop, ◌^◌, ◌&&◌, Some, None, nat_lt}
use Rattle.std.proofs.lemmas.Bool.{and_right}
use Rattle.std.proofs.lemmas.Bool.Decides.{nat_tests}
use Rattle.ns_types.specs.Cases.{when}
use Rattle.std.specs.List.{list_all}
use Rattle.std.proofs.lemmas.List.{take_more, take_all}
use Rattle.ns_steps.specs.StepLines.{is_digit, decimal_value, number}

abbrev more : ℕ → ℕ → ℕ
more n digit = n * 10 + (digit - 48)

fold_grows : (n : ℕ) (xs : List ℕ) → n ≤ fold more n xs
fold_grows n [] = omega arith
fold_grows n (x ∷ xs) = omega (arith, fold_grows (more n x) xs)

fold_append : (n : ℕ) (xs ys : List ℕ) → fold more n (xs ++ ys) ≡ fold more (fold more n xs) ys
fold_append n [] ys = refl
fold_append n (x ∷ xs) ys = fold_append (more n x) xs ys

-- more digits make no smaller number
pub decimal_value_grows : (text : List ℕ) (i : ℕ) → decimal_value (take i text) ≤ decimal_value text
decimal_value_grows text i =
    let e : decimal_value text ≡ fold more (decimal_value (take i text)) (drop i text) =
    ap decimal_value (sym (take-append-drop i text)) ∙ fold_append 0 (take i text) (drop i text) in
    omega (arith, e, fold_grows (decimal_value (take i text)) (drop i text))

pub decimal_value_more : (text : List ℕ) (i d : ℕ) → i < length text → decimal_value (take (i + 1) text) ≡ decimal_value (take i text) * 10 + (get_or text i d - 48)
decimal_value_more text i d h = ap decimal_value (take_more text i d h) ∙ fold_append 0 (take i text) (get_or text i d ∷ [])

-- digits whose first ones make a number that is too large make none
pub number_too_large : (text : List ℕ) (i : ℕ) → 2 ^ 32 ≤ decimal_value (take i text) → number text ≡ None
unfolding number
number_too_large text i h =
    let e : nat_lt (decimal_value text) (2 ^ 32) ≡ false = grind (arith, nat_tests, decimal_value_grows text i) in
    ap (λ t. when t (decimal_value text)) (and_right (nat_lt 0 (length text) && list_all is_digit text) _ e)

-- digits that make a number that fits
pub number_of_digits : (text : List ℕ) (i n : ℕ) → 0 < length text → length text ≤ i → n ≡ decimal_value (take i text) → list_all is_digit (take i text) ≡ true → n < 2 ^ 32 → Some n ≡ number text
unfolding number
number_of_digits text i n some whole value digits small =
    let all : take i text ≡ text = take_all i text whole in
    let v : n ≡ decimal_value text = value ∙ ap decimal_value all in
    let e : nat_lt 0 (length text) ≡ true = grind (arith, nat_tests) in
    let d : list_all is_digit text ≡ true = ap (list_all is_digit) (sym all) ∙ digits in
    let f : nat_lt (decimal_value text) (2 ^ 32) ≡ true = grind (arith, nat_tests) in
    rw (e, d, f) (ap Some v)
