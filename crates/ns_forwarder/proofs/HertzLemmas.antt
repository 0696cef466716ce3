-- The binary64 that is nearest to a whole number of Hz in MHz, times a million, rounds to that number.
use Rattle.std.proofs.Common.{pow_pos, ◌≡◌, ℕ, suc, ◌+◌, ◌-◌, ◌*◌, ◌/◌, ◌%◌, ◌^◌, ◌<◌, ◌≤◌, Bool, ◌&&◌, Option, Some, None, option_map, zero, ℤ, true, false, negsuc, pos, T, refl, sym, ap, ap₂, subst, ◌∙◌, arith}
use Rattle.std.proofs.lemmas.Float.{lt_of_le_of_lt, lt_of_lt_of_le, le_trans}
use Rattle.std.specs.Float.{Float, binary64, fin, nan, inf, round_ties_even, round_with}
use Prim.Native.Nat.{compare}
use lib.Ieee.{nearest, of_bits, round, mul, of_int, le, lt, to_unsigned, in_float}
use lib.Ieee.Back.{unsigned_back}
use lib.Ieee.Exact.{HasValue, round_exact}
use lib.Ieee.Nearest.{closest, closest_mono}
use lib.Ieee.Order.{round_mono}
use lib.Ieee.Scale.{round_same}
use lib.Ieee.Positive.{num, den, positive, den_pos, own_value, positive_of_value, values_of_le, between, mul_at, mul_mono}
use lib.Pow.{pow-add, pow_mono, shl_lt}
use lib.Dec.{lit≤, le→leb}
use native.Mathlib.Nat.{mul_assoc, mul-one, pow-suc, le_antisymm}
use native.Mathlib.Nat.{lt_of_lt_of_le as nat-lt_of_lt_of_le}
use Rattle.std.specs.Prelude.{codes, option_and_then, if◌then◌else◌}
use Rattle.serde_json.specs.Data.{Data, Num, number}
use Rattle.serde_json.specs.Find.{get, as_number, to_float}
use Rattle.ns_forwarder.specs.Rxpk.{level_from, hertz_from, hertz_of}
use Rattle.ns_forwarder.specs.Laws.{nearest_to_decimal, IsMegahertz, HertzExact}
use Rattle.ns_forwarder.specs.declared.item.TheConstants.{MILLION, FAR, FAR_BELOW}

pub million : MILLION ≡ fin false 15625 (pos 6)
unfolding of_bits
million = refl

-- a number of fewer than 53 binary digits over 2^2 or 2^43 is a binary64
quarters : (q : ℕ) → q < 2 ^ 53 → HasValue (round binary64 false q (2 ^ 2)) false q (2 ^ 2)
quarters q small = round_exact binary64 false q (2 ^ 2) q 1072 (pow_pos 2) small
    (nat-lt_of_lt_of_le (shl_lt 53 1072 small) (pow_mono {i = 1125} {j = 2098} (lit≤ tt)))
    (ap (λ (x : ℕ). q * x) (pow-add 2 1072 2) ∙ sym (mul_assoc q (2 ^ 1072) (2 ^ 2)))

fine_parts : (q : ℕ) → q < 2 ^ 53 → HasValue (round binary64 false q (2 ^ 43)) false q (2 ^ 43)
fine_parts q small = round_exact binary64 false q (2 ^ 43) q 1031 (pow_pos 43) small
    (nat-lt_of_lt_of_le (shl_lt 53 1031 small) (pow_mono {i = 1084} {j = 2098} (lit≤ tt)))
    (ap (λ (x : ℕ). q * x) (pow-add 2 1031 43) ∙ sym (mul_assoc q (2 ^ 1031) (2 ^ 43)))

-- ---- the nearest whole number of a fraction that is less than a quarter from one

closest-low : (n : ℕ) → 0 < n → closest (4 * n - 1) 4 ≡ n
closest-low n some =
    let d : (4 * n - 1) / 4 ≡ n - 1 = omega (arith, some) in
    let r : (4 * n - 1) % 4 ≡ 3 = omega (arith, some) in
    let back : suc (n - 1) ≡ n = omega (arith, some) in
    ap₂ (λ (d r : ℕ). nearest d (compare (r * 2) 4)) d r ∙ back

closest-high : (n : ℕ) → closest (4 * n + 1) 4 ≡ n
closest-high n =
    let d : (4 * n + 1) / 4 ≡ n = omega arith in
    let r : (4 * n + 1) % 4 ≡ 1 = omega arith in
    ap₂ (λ (d r : ℕ). nearest d (compare (r * 2) 4)) d r

closest_is : (z : Float) (n : ℕ) → 0 < n → (4 * n - 1) * den z ≤ num z * 4 → num z * 4 ≤ (4 * n + 1) * den z → closest (num z) (den z) ≡ n
closest_is z n some low high =
    le_antisymm
    (subst (λ (x : ℕ). closest (num z) (den z) ≤ x) (closest-high n) (closest_mono (num z) (den z) (4 * n + 1) 4 (den_pos z) (omega arith) high))
    (subst (λ (x : ℕ). x ≤ closest (num z) (den z)) (closest-low n some) (closest_mono (4 * n - 1) 4 (num z) (den z) (omega arith) (den_pos z) low))

rounded : (z : Float) → T (positive z) → round_ties_even binary64 z ≡ round binary64 false (closest (num z) (den z)) 1
unfolding round_with
rounded nan p = absurd p
rounded (inf s) p = absurd p
rounded (fin true m e) p = absurd p
rounded (fin false m e) p = refl

-- ---- the product is less than a quarter from the whole number

-- n Hz in MHz, as the nearest binary64
abbrev pub near : ℕ → Float
near n = round binary64 false n 1000000

abbrev pub factor : Float
factor = fin false 15625 (pos 6)

same_factor : T (le factor factor)
unfolding le
same_factor = tt

record IsNear (n : ℕ) (z : Float) : Type 0 where
  is : T (positive z)
  low : (4 * n - 1) * den z ≤ num z * 4
  high : num z * 4 ≤ (4 * n + 1) * den z

-- between the multiples q and q + 1 of 2^-43
product_within : (n q : ℕ) → 863000000 ≤ n → n ≤ 870000000 → q * 1000000 ≤ n * 2 ^ 43 → n * 2 ^ 43 < (q + 1) * 1000000
    → T (positive (near n)) × IsNear n (mul binary64 (near n) factor)
product_within n q least most below above =
    let x = near n in
    let some : 0 < q = omega (arith, least, most, below, above) in
    let small : q + 1 < 2 ^ 53 = omega (arith, least, most, below, above) in
    let lo = round binary64 false q (2 ^ 43) in
    let hi = round binary64 false (q + 1) (2 ^ 43) in
    let lo_val : HasValue lo false q (2 ^ 43) = fine_parts q (omega (arith, small)) in
    let hi_val : HasValue hi false (q + 1) (2 ^ 43) = fine_parts (q + 1) small in
    let lo_le : T (le lo x) = round_mono binary64 q (2 ^ 43) n 1000000 (pow_pos 43) (omega arith) below in
    let hi_le : T (le x hi) = round_mono binary64 n 1000000 (q + 1) (2 ^ 43) (omega arith) (pow_pos 43) (omega (arith, above)) in
    let lo_pos : T (positive lo) = positive_of_value lo q (2 ^ 43) lo_val some in
    let hi_pos : T (positive hi) = positive_of_value hi (q + 1) (2 ^ 43) hi_val (omega arith) in
    let x_pos : T (positive x) = between lo x hi lo_pos hi_pos lo_le hi_le in
    let f_val : HasValue factor false 1000000 1 = (refl, refl) in
    let a = round binary64 false (4 * n - 1) (2 ^ 2) in
    let b = round binary64 false (4 * n + 1) (2 ^ 2) in
    let a_val : HasValue a false (4 * n - 1) (2 ^ 2) = quarters (4 * n - 1) (omega (arith, most)) in
    let b_val : HasValue b false (4 * n + 1) (2 ^ 2) = quarters (4 * n + 1) (omega (arith, most)) in
    let a_pos : T (positive a) = positive_of_value a (4 * n - 1) (2 ^ 2) a_val (omega (arith, least)) in
    let b_pos : T (positive b) = positive_of_value b (4 * n + 1) (2 ^ 2) b_val (omega arith) in
    let z = mul binary64 x factor in
    let lo_is : mul binary64 lo factor ≡ round binary64 false (q * 1000000) (2 ^ 43 * 1) = mul_at binary64 lo factor q (2 ^ 43) 1000000 1 lo_pos tt (pow_pos 43) (omega arith) lo_val f_val in
    let hi_is : mul binary64 hi factor ≡ round binary64 false ((q + 1) * 1000000) (2 ^ 43 * 1) = mul_at binary64 hi factor (q + 1) (2 ^ 43) 1000000 1 hi_pos tt (pow_pos 43) (omega arith) hi_val f_val in
    let a_le : T (le a (mul binary64 lo factor))
    = subst (λ (y : Float). T (le a y)) (sym lo_is) (round_mono binary64 (4 * n - 1) (2 ^ 2) (q * 1000000) (2 ^ 43 * 1) (pow_pos 2) (omega arith) (omega (arith, least, above))) in
    let b_le : T (le (mul binary64 hi factor) b)
    = subst (λ (y : Float). T (le y b)) (sym hi_is) (round_mono binary64 ((q + 1) * 1000000) (2 ^ 43 * 1) (4 * n + 1) (2 ^ 2) (omega arith) (pow_pos 2) (omega (arith, below))) in
    let az : T (le a z) = le_trans a (mul binary64 lo factor) z a_le (mul_mono binary64 lo x factor factor lo_pos x_pos tt tt lo_le same_factor) in
    let zb : T (le z b) = le_trans z (mul binary64 hi factor) b (mul_mono binary64 x hi factor factor x_pos hi_pos tt tt hi_le same_factor) b_le in
    let z_pos : T (positive z) = between a z b a_pos b_pos az zb in (
      x_pos,
      record {
        is = z_pos;
        low = values_of_le a z (4 * n - 1) (2 ^ 2) (num z) (den z) a_pos z_pos a_val (own_value z z_pos) az;
        high = values_of_le z b (num z) (den z) (4 * n + 1) (2 ^ 2) z_pos b_pos (own_value z z_pos) b_val zb;
      },
    )

product : (n : ℕ) → 863000000 ≤ n → n ≤ 870000000 → T (positive (near n)) × IsNear n (mul binary64 (near n) factor)
product n least most = product_within n (n * 2 ^ 43 / 1000000) least most (omega arith) (omega arith)

pub near-positive : (n : ℕ) → 863000000 ≤ n → n ≤ 870000000 → T (positive (near n))
near-positive n least most = (product n least most).0

whole-back : (n : ℕ) → n ≤ 870000000 → to_unsigned 32 (round binary64 false n 1) ≡ n
unfolding of_int in_float
whole-back n most = (unsigned_back binary64 32 n (le→leb n (2 ^ 53) (omega (arith, most))) (omega (arith, most))).1

pub hertz-back : (n : ℕ) → 863000000 ≤ n → n ≤ 870000000 → to_unsigned 32 (round_ties_even binary64 (mul binary64 (near n) MILLION)) ≡ n
hertz-back n least most =
    let p = (product n least most).1 in
    let z = mul binary64 (near n) factor in
    ap (λ (m : Float). to_unsigned 32 (round_ties_even binary64 (mul binary64 (near n) m))) million
    ∙ ap (to_unsigned 32) (rounded z p.is ∙ ap (λ (c : ℕ). round binary64 false c 1) (closest_is z n (omega (arith, least)) p.low p.high))
    ∙ whole-back n most

-- ---- it is no number that is too great for one of radio

zero_below : T (lt FAR_BELOW (round binary64 false 0 1))
unfolding round lt of_bits
zero_below = tt

most_below : T (lt (round binary64 false 999 1) FAR)
unfolding round lt of_bits
most_below = tt

pub near-above : (n : ℕ) → T (lt FAR_BELOW (near n))
near-above n = lt_of_lt_of_le FAR_BELOW (round binary64 false 0 1) (near n) zero_below (round_mono binary64 0 1 n 1000000 (omega arith) (omega arith) (omega arith))

pub near-below : (n : ℕ) → n ≤ 870000000 → T (lt (near n) FAR)
near-below n most = lt_of_le_of_lt (near n) (round binary64 false 999 1) FAR (round_mono binary64 n 1000000 999 1 (omega arith) (omega arith) (omega (arith, most))) most_below

holds : (b : Bool) → T b → b ≡ true
holds true t = refl
holds false t = absurd t

pub level-near : (n : ℕ) → n ≤ 870000000 → level_from (near n) ≡ Some (near n)
level-near n most =
    ap₂ (λ (a b : Bool). if a && b then Some (near n) else None) (holds (lt FAR_BELOW (near n)) (near-above n)) (holds (lt (near n) FAR) (near-below n most))

-- ---- the law

ten_to_pos : (k : ℕ) → 0 < 10 ^ k
ten_to_pos zero = omega arith
ten_to_pos (suc k) = omega (arith, pow-suc 10 k, ten_to_pos k)

nearest-near : (digits : ℕ) (exponent : ℤ) (freq : ℕ) → IsMegahertz digits exponent freq → nearest_to_decimal digits exponent ≡ near freq
nearest-near digits (pos e) freq is = round_same binary64 false (digits * 10 ^ e) 1 freq 1000000 (omega arith) (omega arith) (is ∙ sym (mul-one freq))
nearest-near digits (negsuc e) freq is = round_same binary64 false digits (10 ^ suc e) freq 1000000 (ten_to_pos (suc e)) (omega arith) is

pub hertz-number : (d : Data) (m : Num) (freq : ℕ) → get (codes "freq") d ≡ Some (number m) → to_float m ≡ near freq → 863000000 ≤ freq → freq ≤ 870000000 → hertz_of d ≡ Some freq
hertz-number d m freq at near_is least most =
    ap (λ (found : Option Data). option_map hertz_from (option_and_then level_from (option_map to_float (option_and_then as_number found)))) at
    ∙ ap (λ (x : Float). option_map hertz_from (level_from x)) near_is
    ∙ ap (option_map hertz_from) (level-near freq most)
    ∙ ap Some (hertz-back freq least most)

pub hertz-exact : HertzExact
hertz-exact d m digits exponent freq at value is least most = hertz-number d m freq at (value ∙ nearest-near digits exponent freq is) least most
