-- A number that was written in decimal is read back.
use Rattle.std.proofs.Common.{◌≡◌, ℕ, ◌+◌, ◌-◌, ◌*◌, ◌^◌, ◌<◌, true, nat_le, List, length, take, fold, Some, refl, sym, ap, ◌∙◌, arith}
use Rattle.std.specs.Prelude.{decimal}
use Rattle.std.specs.List.{list_all}
use Rattle.std.proofs.lemmas.Bool.{and_parts}
use Rattle.std.proofs.lemmas.Bool.Decides.{nat_tests}
use Rattle.std.proofs.lemmas.List.{take_all}
use Rattle.std.proofs.lemmas.Fmt.{decimal_nonempty, digits_decimal, digits_value-decimal}
use Rattle.std.proofs.lemmas.Str.Parse.{IsDigitsTest, FoldsDigits, IsNumeralModel, numerals_by_fold}
use Rattle.ns_steps.specs.StepLines.{is_digit, decimal_value, number}
use Rattle.ns_steps.proofs.Digits.{number_of_digits}

abbrev AreDigits : List ℕ → Type 0
AreDigits ds = list_all is_digit ds ≡ true

tells : IsDigitsTest AreDigits
tells = record {
  empty = refl;
  parts = λ c cs is. let s = and_parts (is_digit c) (list_all is_digit cs) is in let t = and_parts (nat_le 48 c) (nat_le c 57) s.0 in (grind (arith, nat_tests, t.0, t.1), s.1);
  more = λ c cs within rest. let low : nat_le 48 c ≡ true = grind (arith, nat_tests, within) in let high : nat_le c 57 ≡ true = grind (arith, nat_tests, within) in rw (low, high) rest;
}

folds : FoldsDigits (fold (λ n digit. n * 10 + (digit - 48)))
folds = record { empty = λ n. refl; more = λ n c cs within. refl }

model : IsNumeralModel AreDigits decimal_value
model = numerals_by_fold AreDigits tells (fold (λ n digit. n * 10 + (digit - 48))) folds

pub number-decimal : (n : ℕ) → n < 2 ^ 32 → number (decimal n) ≡ Some n
number-decimal n small =
    let fits : n < 2 ^ 64 = omega arith in
    let all : take (length (decimal n)) (decimal n) ≡ decimal n = take_all (length (decimal n)) (decimal n) (omega arith) in
    let value : n ≡ decimal_value (take (length (decimal n)) (decimal n)) = sym (ap decimal_value all ∙ digits_value-decimal model n fits) in
    let digits : list_all is_digit (take (length (decimal n)) (decimal n)) ≡ true = ap (list_all is_digit) all ∙ digits_decimal model n fits in
    sym (number_of_digits (decimal n) (length (decimal n)) n (decimal_nonempty n fits) (omega arith) value digits small)
