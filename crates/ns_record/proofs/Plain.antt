-- Step lines of calls have printable ASCII alone.
use Rattle.std.proofs.Common.{◌≡◌, ℕ, zero, suc, ◌/◌, ◌%◌, ◌==◌, ◌<◌, Bool, true, false, ◌&&◌, nat_le, nat_lt, List, [], ◌∷◌, ◌++◌, slice_index, refl, ◌∙◌, arith}
use Rattle.std.specs.Prelude.{decimal}
use Rattle.std.specs.List.{list_all}
use Rattle.std.specs.Fmt.{digits, digits_onto, digit_glyph}
use Rattle.std.specs.List.{All}
use Rattle.std.specs.Str.{IsAscii}
use Rattle.std.proofs.lemmas.Bool.{and_from, and_parts, agree_below_at, cond_both}
use Rattle.std.proofs.lemmas.List.Elements.{All-from_get_or}
use Rattle.std.proofs.lemmas.List.Folds.{list_all-append, list_any_none}
use Rattle.std.proofs.lemmas.List.Sums.{AllPass-from_list_all}
use Rattle.std.proofs.lemmas.Bool.Decides.{nat_tests}
use Rattle.hex.specs.Hex.{encode_with, encode_lower, lower_digits}
use Rattle.ns_lines.specs.Text.{has_line_feed}

-- a printable byte of ASCII
abbrev is_plain : ℕ → Bool
is_plain b = nat_le 32 b && nat_lt b 127

abbrev pub plain : List ℕ → Bool
plain = list_all is_plain

-- two texts one after the other
pub both : (xs ys : List ℕ) → plain xs ≡ true → plain ys ≡ true → plain (xs ++ ys) ≡ true
both xs ys first second = list_all-append is_plain xs ys ∙ and_from (plain xs) (plain ys) first second

-- an element of a text, or 0 behind its end
at_each : (P : ℕ → Type 0) → P 0 → (xs : List ℕ) → ((x : ℕ) → is_plain x ≡ true → P x) → plain xs ≡ true → (i : ℕ) → P (slice_index xs i)
at_each P none [] each is i = none
at_each P none (x ∷ xs) each is zero = each x (and_parts (is_plain x) (plain xs) is).0
at_each P none (x ∷ xs) each is (suc i) = at_each P none xs each (and_parts (is_plain x) (plain xs) is).1 i

not_return : (x : ℕ) → is_plain x ≡ true → (x == 13) ≡ false
not_return x is = grind (arith, nat_tests, is)

not_feed : (x : ℕ) → is_plain x ≡ true → (x == 10) ≡ false
not_feed x is = grind (arith, nat_tests, is)

small : (x : ℕ) → is_plain x ≡ true → x < 128
small x is = grind (arith, nat_tests, is)

pub no_return : (xs : List ℕ) → plain xs ≡ true → (i : ℕ) → (slice_index xs i == 13) ≡ false
no_return xs is i = at_each (λ x. (x == 13) ≡ false) refl xs not_return is i

pub unended : (xs : List ℕ) → plain xs ≡ true → All (λ b. (b == 10) ≡ false) xs
unended xs is = All-from_get_or (λ b. (b == 10) ≡ false) xs 0 (λ i _. at_each (λ x. (x == 10) ≡ false) refl xs not_feed is i)

pub ascii : (xs : List ℕ) → plain xs ≡ true → IsAscii xs
ascii xs is i = at_each (λ x. x < 128) (omega arith) xs small is i

pub no_feed : (xs : List ℕ) → plain xs ≡ true → has_line_feed xs ≡ false
no_feed xs is = list_any_none (λ b. b == 10) xs (unended xs is)

-- ---- the parts of step lines

digit_plain : (i : ℕ) → i < 16 → is_plain (slice_index lower_digits i) ≡ true
digit_plain i within = AllPass-from_list_all is_plain lower_digits refl i 0 within

-- the hex of numbers below 256
pub hex_plain : (bytes : List ℕ) → ((i : ℕ) → slice_index bytes i < 256) → plain (encode_lower bytes) ≡ true
unfolding encode_with
hex_plain [] are = refl
hex_plain (b ∷ bs) are =
    let byte : b < 256 = are 0 in
    rw (digit_plain (b / 16) (omega arith), digit_plain (b % 16) (omega arith)) (hex_plain bs (λ i. are (suc i)))

glyph : (d : ℕ) → d < 10 → is_plain (digit_glyph false d) ≡ true
glyph d h = agree_below_at (λ n. is_plain (digit_glyph false n)) (λ n. true) 10 d refl h

onto_plain : (k n : ℕ) (acc : List ℕ) → plain acc ≡ true → plain (digits_onto k 10 false n acc) ≡ true
onto_plain zero n acc is = is
onto_plain (suc k) n acc is =
    let now : List ℕ = digit_glyph false (n % 10) ∷ acc in
    let more : plain now ≡ true = rw (glyph (n % 10) (omega arith)) is in
    cond_both (n / 10 == 0) now (digits_onto k 10 false (n / 10) now) (λ l. plain l ≡ true) (λ _. more) (λ _. onto_plain k (n / 10) now more)

pub decimal_plain : (n : ℕ) → plain (decimal n) ≡ true
unfolding digits
decimal_plain n = onto_plain 64 n [] refl
