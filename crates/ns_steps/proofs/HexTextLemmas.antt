-- Pairs of hex digits, read by their values in the table.
use Rattle.std.proofs.Common.{◌≡◌, ℕ, ◌+◌, ◌*◌, ◌<◌, ◌≤◌, ◌⊎◌, inl, inr, List, length, take, drop, slice_index, slice_set, bit_or, Option, Some, None, unwrap_or, Ok, Err, IsErr, refl, ap, ◌∙◌, arith}
use Rattle.std.proofs.lemmas.Bool.{cases_lt}
use Rattle.std.proofs.lemmas.Nat.{le_or_l, le_or_r, or_lt}
use Rattle.hex.proofs.Pairs.{prepend, decode_step, decode_err}
use Rattle.hex.specs.Hex.{hex_digit_value, digit_or_error, decode_pairs, pair_value, ◌>>=◌}
use Rattle.hex.specs.declared.error.FromHexError.{FromHexError}
use Rattle.hex.specs.declared.error.FromHexError.TheVariants.{InvalidHexCharacter}
use Rattle.ns_steps.specs.HexText.{digit_or_16}

value_small : (c v : ℕ) → hex_digit_value c ≡ Some v → v < 16
value_small c v h = grind (arith)

some_digit : (o : Option ℕ) → unwrap_or o 16 ≤ 15 → o ≡ Some (unwrap_or o 16)
some_digit (Some v) h = refl
some_digit None h = absurd (omega (arith, h))

no_digit : (o : Option ℕ) → 15 < unwrap_or o 16 → ((v : ℕ) → o ≡ Some v → v < 16) → o ≡ None
no_digit (Some v) h small = absurd (omega (arith, h, small v refl))
no_digit None h small = refl

-- two digits
pub pair_of_digits : (a b i : ℕ) → digit_or_16 a ≤ 15 → digit_or_16 b ≤ 15 → pair_value a b i ≡ Ok (digit_or_16 a * 16 + digit_or_16 b)
pair_of_digits a b i ha hb = rw (some_digit (hex_digit_value a) ha, some_digit (hex_digit_value b) hb) refl

second_refused : (a b i : ℕ) (first second : Option ℕ) → second ≡ None
    → (e : FromHexError) × ((digit_or_error a i first >>= λ h. (digit_or_error b (i + 1) second >>= λ l. Ok (h * 16 + l))) ≡ Err e)
second_refused a b i (Some v) second none = (InvalidHexCharacter b (i + 1), rw none refl)
second_refused a b i None second none = (InvalidHexCharacter a i, refl)

-- two bytes that aren't two digits
pub pair_refused : (a b i : ℕ) → (15 < digit_or_16 a) ⊎ (15 < digit_or_16 b) → (e : FromHexError) × (pair_value a b i ≡ Err e)
pair_refused a b i (inl first) = (InvalidHexCharacter a i, rw (no_digit (hex_digit_value a) first (value_small a)) refl)
pair_refused a b i (inr second) = second_refused a b i (hex_digit_value a) (hex_digit_value b) (no_digit (hex_digit_value b) second (value_small b))

-- what is known once i bytes are read, of which `seen` has all the digits' bits: where all were digits, the bytes so far are theirs
abbrev pub AreRead : List ℕ → List ℕ → ℕ → ℕ → Type 0
AreRead text out i seen =
    (seen < 16 → decode_pairs 0 text ≡ prepend (take i out) (decode_pairs (2 * i) (drop (2 * i) text))) × (16 ≤ seen → IsErr (decode_pairs 0 text))

-- one byte more is read
module _ (text out : List ℕ) (i seen high low v : ℕ) (fits : 2 * i + 1 < length text) (room : i < length out)
    (first : high ≡ digit_or_16 (slice_index text (2 * i))) (second : low ≡ digit_or_16 (slice_index text (2 * i + 1))) (byte : high < 16 → low < 16 → v ≡ high * 16 + low)
    (read : AreRead text out i seen) where
  all_digits : bit_or seen (bit_or high low) < 16 → decode_pairs 0 text ≡ prepend (take (i + 1) (slice_set out i v)) (decode_pairs (2 * (i + 1)) (drop (2 * (i + 1)) text))
  all_digits small =
      let pair : bit_or high low < 16 = omega (arith, small, le_or_r seen (bit_or high low)) in
      let is_high : high < 16 = omega (arith, pair, le_or_l high low) in
      let is_low : low < 16 = omega (arith, pair, le_or_r high low) in
      let before : seen < 16 = omega (arith, small, le_or_l seen (bit_or high low)) in
      let is = pair_of_digits (slice_index text (2 * i)) (slice_index text (2 * i + 1)) (2 * i) (omega (arith, is_high, first)) (omega (arith, is_low, second)) in
      let value : digit_or_16 (slice_index text (2 * i)) * 16 + digit_or_16 (slice_index text (2 * i + 1)) ≡ v = omega (arith, byte is_high is_low, first, second) in
      decode_step text out i v fits room (is ∙ ap Ok value) (read.0 before)

  refused_by : (15 < digit_or_16 (slice_index text (2 * i))) ⊎ (15 < digit_or_16 (slice_index text (2 * i + 1))) → seen < 16 → IsErr (decode_pairs 0 text)
  refused_by bad before =
      let (fault, is) = pair_refused (slice_index text (2 * i)) (slice_index text (2 * i + 1)) (2 * i) bad in
      rw (decode_err text out i fault fits is (read.0 before)) refl

  no_digit_seen : 16 ≤ bit_or seen (bit_or high low) → IsErr (decode_pairs 0 text)
  no_digit_seen big =
      elim (cases_lt seen 16) [
        | inr before ↦ read.1 before
        | inl before ↦ elim (cases_lt high 16) [
          | inr bad ↦ refused_by (inl (omega (arith, bad, first))) before
          | inl is_high ↦ elim (cases_lt low 16) [
            | inr bad ↦ refused_by (inr (omega (arith, bad, second))) before
            | inl is_low ↦ absurd (omega (arith, big, or_lt 4 seen (bit_or high low) before (or_lt 4 high low is_high is_low)))
          ]
        ]
      ]

  pub read_on : AreRead text (slice_set out i v) (i + 1) (bit_or seen (bit_or high low))
  read_on = (all_digits, no_digit_seen)
