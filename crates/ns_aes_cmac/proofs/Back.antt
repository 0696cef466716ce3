-- The inverse cipher, by the same look-ups and shuffles.
use Rattle.std.proofs.Common.{◌≡◌, ℕ, ◌+◌, ◌-◌, ◌≤◌, eqb, true, List, [], ◌∷◌, ◌++◌, map, length, drop, get_or, reverse, bit_xor, refl, sym, ap, ◌∙◌, arith}
use Rattle.std.proofs.lemmas.List.{drop_all, get_or-map, get_or-reverse, length-map, length-reverse, reverse-append}
use Rattle.std.proofs.lemmas.Nat.{xor_comm}
use Rattle.std.proofs.lemmas.Simd.{map-map}
use lib.Lanes.{zip2}
use Rattle.ns_aes_cmac.specs.Aes.{product_of_bits, multiply, multiplicative_inverse, inverse_s_box, xor_bytes, mix_columns_by, sum_of_products, inverse_mix_columns, inverse_shift_rows, inverse_sub_bytes, inverse_rounds, round_keys, unaes, first_key}
use Rattle.ns_aes_cmac.specs.declared.key_schedule.RoundKey.{RoundKey}
use Rattle.ns_aes_cmac.specs.declared.key_schedule.RoundKeys.{RoundKeys}
use Rattle.ns_aes_cmac.specs.RoundKeys.{round_key, in_order}
use Rattle.ns_aes_cmac.proofs.Bytes.{all_below, agree_at}
use Rattle.ns_aes_cmac.specs.declared.substitution.TheConstants.{BACK_INTO_LO, BACK_INTO_HI, BACK_I, BACK_J}
use Rattle.ns_aes_cmac.specs.declared.round.TheConstants.{TIMES_9_LO, TIMES_9_HI, TIMES_11_LO, TIMES_11_HI, TIMES_13_LO, TIMES_13_HI, TIMES_14_LO, TIMES_14_HI}
use Rattle.ns_aes_cmac.specs.Lookups.{look_at, half_i, half_j, by_halves}
use Rattle.ns_aes_cmac.proofs.Lanes.{IsBlock, looked_both, map_agree}
use Rattle.ns_aes_cmac.proofs.Rounds.{one_later}
use Rattle.ns_aes_cmac.proofs.Mix.{sixteen, picked, joined, turned, zip2_xor}

abbrev into : ℕ → ℕ
into b = by_halves BACK_INTO_LO BACK_INTO_HI b

abbrev back : ℕ → ℕ
back b = bit_xor (look_at BACK_I (half_i (into b))) (look_at BACK_J (half_j (into b)))

all_back : all_below (λ b. eqb (back b) (inverse_s_box b)) 256 ≡ true
unfolding product_of_bits multiplicative_inverse inverse_s_box half_i half_j
all_back = refl

pub inverse_substituted : (v : List ℕ) {w i j r : List ℕ} → IsBlock v → w ≡ map into v → i ≡ map half_i w → j ≡ map half_j w
    → r ≡ zip2 bit_xor (map (look_at BACK_I) i) (map (look_at BACK_J) j) → r ≡ inverse_sub_bytes v
inverse_substituted v {w} {i} {j} {r} block ew ei ej er =
    let ei' = ei ∙ ap (map half_i) ew ∙ map-map half_i into v in
    let ej' = ej ∙ ap (map half_j) ew ∙ map-map half_j into v in
    er ∙ looked_both BACK_I BACK_J (λ b. half_i (into b)) (λ b. half_j (into b)) v ei' refl ej' refl
    ∙ map_agree back inverse_s_box v block.1 (agree_at back inverse_s_box all_back)

-- the products by a number, by the two look-ups of its tables
module _ (m : ℕ) (lo hi : List ℕ) (test : all_below (λ b. eqb (by_halves lo hi b) (multiply m b)) 256 ≡ true) (v : List ℕ) (block : IsBlock v) where
  times : map (by_halves lo hi) v ≡ map (multiply m) v
  times = map_agree (by_halves lo hi) (multiply m) v block.1 (agree_at (by_halves lo hi) (multiply m) test)

times_9 : (v : List ℕ) → IsBlock v → map (by_halves TIMES_9_LO TIMES_9_HI) v ≡ map (multiply 9) v
unfolding product_of_bits
times_9 = times 9 TIMES_9_LO TIMES_9_HI refl

times_11 : (v : List ℕ) → IsBlock v → map (by_halves TIMES_11_LO TIMES_11_HI) v ≡ map (multiply 11) v
unfolding product_of_bits
times_11 = times 11 TIMES_11_LO TIMES_11_HI refl

times_13 : (v : List ℕ) → IsBlock v → map (by_halves TIMES_13_LO TIMES_13_HI) v ≡ map (multiply 13) v
unfolding product_of_bits
times_13 = times 13 TIMES_13_LO TIMES_13_HI refl

times_14 : (v : List ℕ) → IsBlock v → map (by_halves TIMES_14_LO TIMES_14_HI) v ≡ map (multiply 14) v
unfolding product_of_bits
times_14 = times 14 TIMES_14_LO TIMES_14_HI refl

abbrev turn_0 : List ℕ
turn_0 = 0 ∷ 1 ∷ 2 ∷ 3 ∷ 4 ∷ 5 ∷ 6 ∷ 7 ∷ 8 ∷ 9 ∷ 10 ∷ 11 ∷ 12 ∷ 13 ∷ 14 ∷ 15 ∷ []

abbrev turn_1 : List ℕ
turn_1 = 1 ∷ 2 ∷ 3 ∷ 0 ∷ 5 ∷ 6 ∷ 7 ∷ 4 ∷ 9 ∷ 10 ∷ 11 ∷ 8 ∷ 13 ∷ 14 ∷ 15 ∷ 12 ∷ []

abbrev turn_2 : List ℕ
turn_2 = 2 ∷ 3 ∷ 0 ∷ 1 ∷ 6 ∷ 7 ∷ 4 ∷ 5 ∷ 10 ∷ 11 ∷ 8 ∷ 9 ∷ 14 ∷ 15 ∷ 12 ∷ 13 ∷ []

abbrev turn_3 : List ℕ
turn_3 = 3 ∷ 0 ∷ 1 ∷ 2 ∷ 7 ∷ 4 ∷ 5 ∷ 6 ∷ 11 ∷ 8 ∷ 9 ∷ 10 ∷ 15 ∷ 12 ∷ 13 ∷ 14 ∷ []

abbrev mix_by_code : List ℕ → List ℕ → List ℕ → List ℕ → List ℕ
mix_by_code a b c d = zip2 bit_xor (zip2 bit_xor (picked turn_0 a) (picked turn_1 b)) (zip2 bit_xor (picked turn_2 c) (picked turn_3 d))

abbrev code_row : ℕ → ℕ → ℕ → ℕ → ℕ
code_row w x y z = bit_xor (bit_xor (multiply 14 w) (multiply 11 x)) (bit_xor (multiply 13 y) (multiply 9 z))

module _ (w x y z : ℕ) where
  row_1 : code_row x y z w ≡ sum_of_products 9 14 11 13 w x y z
  row_1 = turned (multiply 14 x) (multiply 11 y) (multiply 13 z) (multiply 9 w)

  row_2 : code_row y z w x ≡ sum_of_products 13 9 14 11 w x y z
  row_2 = xor_comm (bit_xor (multiply 14 y) (multiply 11 z)) (bit_xor (multiply 13 w) (multiply 9 x))

  row_3 : code_row z w x y ≡ sum_of_products 11 13 9 14 w x y z
  row_3 = sym (turned (multiply 11 w) (multiply 13 x) (multiply 9 y) (multiply 14 z))

mixed_of : (v : List ℕ) → length v ≡ 16 → mix_by_code (map (multiply 14) v) (map (multiply 11) v) (map (multiply 13) v) (map (multiply 9) v) ≡ inverse_mix_columns v
unfolding mix_columns_by
mixed_of v long =
    sixteen (λ v. mix_by_code (map (multiply 14) v) (map (multiply 11) v) (map (multiply 13) v) (map (multiply 9) v) ≡ inverse_mix_columns v)
    (λ a0 a1 a2 a3 a4 a5 a6 a7 a8 a9 a10 a11 a12 a13 a14 a15.
    joined (refl) (
    joined (row_1 a0 a1 a2 a3) (
    joined (row_2 a0 a1 a2 a3) (
    joined (row_3 a0 a1 a2 a3) (
    joined (refl) (
    joined (row_1 a4 a5 a6 a7) (
    joined (row_2 a4 a5 a6 a7) (
    joined (row_3 a4 a5 a6 a7) (
    joined (refl) (
    joined (row_1 a8 a9 a10 a11) (
    joined (row_2 a8 a9 a10 a11) (
    joined (row_3 a8 a9 a10 a11) (
    joined (refl) (
    joined (row_1 a12 a13 a14 a15) (
    joined (row_2 a12 a13 a14 a15) (
    joined (row_3 a12 a13 a14 a15) (
    refl)))))))))))))))))
    v long

pub mixed_is : (v a b c d : List ℕ) → IsBlock v → a ≡ map (by_halves TIMES_14_LO TIMES_14_HI) v → b ≡ map (by_halves TIMES_11_LO TIMES_11_HI) v → c ≡ map (by_halves TIMES_13_LO TIMES_13_HI) v → d ≡ map (by_halves TIMES_9_LO TIMES_9_HI) v
    → mix_by_code a b c d ≡ inverse_mix_columns v
mixed_is v a b c d block ea eb ec ed =
    rw (ea ∙ times_14 v block, eb ∙ times_11 v block, ec ∙ times_13 v block, ed ∙ times_9 v block) (mixed_of v block.0)

abbrev back_rows : List ℕ
back_rows = 0 ∷ 13 ∷ 10 ∷ 7 ∷ 4 ∷ 1 ∷ 14 ∷ 11 ∷ 8 ∷ 5 ∷ 2 ∷ 15 ∷ 12 ∷ 9 ∷ 6 ∷ 3 ∷ []

shifted : (v : List ℕ) → length v ≡ 16 → picked back_rows v ≡ inverse_shift_rows v
shifted v long = sixteen (λ v. picked back_rows v ≡ inverse_shift_rows v) (λ a0 a1 a2 a3 a4 a5 a6 a7 a8 a9 a10 a11 a12 a13 a14 a15. refl) v long

pub last_is : (key v r : List ℕ) → length v ≡ 16 → r ≡ inverse_sub_bytes (picked back_rows v) → zip2 bit_xor key r ≡ xor_bytes key (inverse_sub_bytes (inverse_shift_rows v))
last_is key v r long e = zip2_xor key r ∙ ap (xor_bytes key) (e ∙ ap inverse_sub_bytes (shifted v long))

abbrev final : List ℕ → List ℕ → List ℕ
final k s = xor_bytes k (inverse_sub_bytes (inverse_shift_rows s))

abbrev pub inverse_full : List ℕ → List ℕ → List ℕ
inverse_full k s = inverse_mix_columns (final k s)

pub inverse_rounds-next : (k l : List ℕ) (ks : List (List ℕ)) (s : List ℕ) → inverse_rounds (k ∷ l ∷ ks) s ≡ inverse_rounds (l ∷ ks) (inverse_full k s)
unfolding inverse_rounds
inverse_rounds-next k l ks s = refl

pub inverse_rounds-end : (k s : List ℕ) → inverse_rounds (k ∷ []) s ≡ final k s
unfolding inverse_rounds
inverse_rounds-end k s = refl

-- ---- from the keys as the code holds them

-- the keys between, from the last on
abbrev backwards : RoundKeys → List (List ℕ)
backwards ks = reverse (map round_key ks.between)

from_last : (first last : List ℕ) (ks : List (List ℕ)) → reverse (first ∷ (ks ++ last ∷ [])) ≡ last ∷ (reverse ks ++ first ∷ [])
from_last first last ks = reverse-append (first ∷ []) (ks ++ last ∷ []) ∙ ap (λ l. l ++ first ∷ []) (reverse-append ks (last ∷ []))

-- before the first round all rounds are left
pub unaes_begins : (ks : RoundKeys) (key block : List ℕ) → in_order ks ≡ key ∷ round_keys key
    → inverse_rounds (backwards ks ++ ks.first ∷ []) (zip2 bit_xor ks.last block) ≡ unaes key block
unfolding unaes
unaes_begins ks key block e =
    ap (inverse_rounds (backwards ks ++ ks.first ∷ [])) (zip2_xor ks.last block)
    ∙ ap (λ l. inverse_rounds (drop 1 l) (xor_bytes (first_key l) block)) (sym (from_last ks.first ks.last (map round_key ks.between)) ∙ ap reverse e)

-- the rounds that are left, one round later
pub unaes_later : (ks : RoundKeys) (s v r : List ℕ) (i n : ℕ) (d : RoundKey) → n + (i + 1) ≡ length ks.between → v ≡ inverse_full (round_key (get_or ks.between n d)) s
    → inverse_rounds (drop i (backwards ks) ++ ks.first ∷ []) s ≡ r → inverse_rounds (drop (i + 1) (backwards ks) ++ ks.first ∷ []) v ≡ r
unaes_later ks s v r i n d sum e f =
    let long = length-map ks.between round_key in
    let as_long = length-reverse (map round_key ks.between) in
    let from_end : length (map round_key ks.between) - 1 - i ≡ n = omega arith in
    let at = get_or-reverse (map round_key ks.between) i [] (omega arith)
    ∙ ap (λ m. get_or (map round_key ks.between) m []) from_end ∙ get_or-map round_key ks.between n d [] (omega arith) in
    sym (one_later inverse_rounds inverse_full inverse_rounds-next (backwards ks) ks.first s v i (omega arith) (e ∙ ap (λ k. inverse_full k s) (sym at))) ∙ f

-- no round but the last is left
pub unaes_ends : (ks : RoundKeys) (s v r : List ℕ) (i : ℕ) → length ks.between ≤ i → v ≡ final ks.first s
    → inverse_rounds (drop i (backwards ks) ++ ks.first ∷ []) s ≡ r → v ≡ r
unaes_ends ks s v r i le e f =
    let long = length-map ks.between round_key in
    let as_long = length-reverse (map round_key ks.between) in
    e ∙ sym (inverse_rounds-end ks.first s) ∙ ap (λ l. inverse_rounds (l ++ ks.first ∷ []) s) (sym (drop_all i (backwards ks) (omega arith))) ∙ f
