-- The rounds in the basis are the rounds.
use Rattle.std.proofs.Common.{◌≡◌, ℕ, ◌%◌, ◌<◌, eqb, true, List, [], ◌∷◌, map, length, replicate, bit_xor, w8, Fits, refl, sym, ap, subst, ◌∙◌, arith}
use Rattle.std.proofs.lemmas.Nat.{xor_comm, xor_lt}
use Rattle.std.proofs.lemmas.List.{length-map, map-id}
use Rattle.std.proofs.lemmas.Simd.{zip2_splat, zip2_of_maps, map-map, splat_is_map}
use lib.Bits.{xor_assoc, xor_zero_r}
use lib.Lanes.{Each1, zip2}
use Rattle.ns_aes_cmac.specs.Aes.{product_of_bits, multiplicative_inverse, s_box, xtime, sub_bytes, shift_rows, mix_columns, xor_bytes}
use Rattle.ns_aes_cmac.specs.Basis.{from_basis, key_from_basis}
use Rattle.ns_aes_cmac.specs.Lookups.{look_at, half_i, half_j, by_halves, by_inverse}
use Rattle.ns_aes_cmac.specs.declared.substitution.TheConstants.{INTO_LO, INTO_HI, OUT_LO, OUT_HI, LAST_I, LAST_J, ONCE_I, ONCE_J, TWICE_I, TWICE_J}
use Rattle.ns_aes_cmac.proofs.Bytes.{all_below, all_below-at, agree_at}
use Rattle.ns_aes_cmac.proofs.Lanes.{IsBlock, looked_both, map_agree}
use Rattle.ns_aes_cmac.proofs.Mix.{sixteen, joined, picked, zip2_xor, mix_by_code, mixed_is, places_0, places_1, places_2, places_3}

-- ---- tests of each byte

-- a function of a byte that gives a byte, by a test of each
pub byte_by : (f : ℕ → ℕ) → all_below (λ b. eqb (f b % 256) (f b)) 256 ≡ true → (b : ℕ) → b < 256 → f b < 256
byte_by f test b fb = subst (λ n. n < 256) (agree_at (λ b. f b % 256) f test b fb) (omega arith)

abbrev pub once : ℕ → ℕ
once b = by_inverse ONCE_I ONCE_J b

abbrev pub twice : ℕ → ℕ
twice b = by_inverse TWICE_I TWICE_J b

pub all_once_bytes : all_below (λ b. eqb (once b % 256) (once b)) 256 ≡ true
unfolding by_inverse half_i half_j
all_once_bytes = refl

all_twice_bytes : all_below (λ b. eqb (twice b % 256) (twice b)) 256 ≡ true
unfolding by_inverse half_i half_j
all_twice_bytes = refl

pub all_once : all_below (λ b. eqb (bit_xor (from_basis (once b)) 99) (s_box (from_basis b))) 256 ≡ true
unfolding product_of_bits multiplicative_inverse s_box by_inverse half_i half_j from_basis
all_once = refl

all_twice : all_below (λ b. eqb (bit_xor (from_basis (twice b)) 198) (xtime (s_box (from_basis b)))) 256 ≡ true
unfolding product_of_bits multiplicative_inverse s_box by_inverse half_i half_j from_basis
all_twice = refl

all_out : all_below (λ b. eqb (bit_xor (bit_xor (look_at LAST_I (half_i b)) (look_at LAST_J (half_j b))) 99) (s_box (from_basis b))) 256 ≡ true
unfolding product_of_bits multiplicative_inverse s_box half_i half_j from_basis
all_out = refl

pub all_back : all_below (λ b. eqb (from_basis (by_halves INTO_LO INTO_HI b)) b) 256 ≡ true
unfolding from_basis
all_back = refl

all_linear : all_below (λ x. all_below (λ y. eqb (from_basis (bit_xor x y)) (bit_xor (from_basis x) (from_basis y))) 256) 256 ≡ true
unfolding from_basis
all_linear = refl

pub linear : (x y : ℕ) → x < 256 → y < 256 → from_basis (bit_xor x y) ≡ bit_xor (from_basis x) (from_basis y)
linear x y fx fy = agree_at (λ y. from_basis (bit_xor x y)) (λ y. bit_xor (from_basis x) (from_basis y)) (all_below-at (λ x. all_below (λ y. eqb (from_basis (bit_xor x y)) (bit_xor (from_basis x) (from_basis y))) 256) 256 all_linear x fx) y fy

-- ---- one lane of a round

pub xor_byte : (a b : ℕ) → a < 256 → b < 256 → bit_xor a b < 256
xor_byte a b = xor_lt 8 a b

-- (a b) (c d) with the middle ones changed round
pub swap : (a b c d : ℕ) → bit_xor (bit_xor a b) (bit_xor c d) ≡ bit_xor (bit_xor a c) (bit_xor b d)
swap a b c d =
    xor_assoc a b (bit_xor c d) ∙ ap (bit_xor a) (sym (xor_assoc b c d) ∙ ap (λ n. bit_xor n d) (xor_comm b c) ∙ xor_assoc c b d) ∙ sym (xor_assoc a c (bit_xor b d))

-- the constants cancel
cancelled : (p q r s v w : ℕ)
    → bit_xor (bit_xor p 99) (bit_xor (bit_xor (bit_xor q 198) (bit_xor (bit_xor r 198) (bit_xor s 99))) (bit_xor (bit_xor v 99) (bit_xor w 99)))
    ≡ bit_xor (bit_xor p (bit_xor q (bit_xor r s))) (bit_xor v w)
cancelled p q r s v w =
    let e1 : bit_xor (bit_xor v 99) (bit_xor w 99) ≡ bit_xor v w = swap v 99 w 99 ∙ xor_zero_r (bit_xor v w) in
    let e2 : bit_xor (bit_xor r 198) (bit_xor s 99) ≡ bit_xor (bit_xor r s) 165 = swap r 198 s 99 in
    let e3 : bit_xor (bit_xor q 198) (bit_xor (bit_xor r s) 165) ≡ bit_xor (bit_xor q (bit_xor r s)) 99 = swap q 198 (bit_xor r s) 165 in
    ap (λ n. bit_xor (bit_xor p 99) (bit_xor (bit_xor (bit_xor q 198) n) (bit_xor (bit_xor v 99) (bit_xor w 99)))) e2
    ∙ ap (λ n. bit_xor (bit_xor p 99) (bit_xor n (bit_xor (bit_xor v 99) (bit_xor w 99)))) e3
    ∙ ap (λ n. bit_xor (bit_xor p 99) (bit_xor (bit_xor (bit_xor q (bit_xor r s)) 99) n)) e1
    ∙ sym (xor_assoc (bit_xor p 99) (bit_xor (bit_xor q (bit_xor r s)) 99) (bit_xor v w))
    ∙ ap (λ n. bit_xor n (bit_xor v w)) (swap p 99 (bit_xor q (bit_xor r s)) 99 ∙ xor_zero_r (bit_xor p (bit_xor q (bit_xor r s))))

module _ (k q r s v w : ℕ) (fk : k < 256) (fq : q < 256) (fr : r < 256) (fs : s < 256) (fv : v < 256) (fw : w < 256) where
  spread : from_basis (bit_xor (bit_xor k (bit_xor q (bit_xor r s))) (bit_xor v w))
      ≡ bit_xor (bit_xor (from_basis k) (bit_xor (from_basis q) (bit_xor (from_basis r) (from_basis s)))) (bit_xor (from_basis v) (from_basis w))
  spread =
      let frs = xor_byte r s fr fs in
      let fqrs = xor_byte q (bit_xor r s) fq frs in
      linear (bit_xor k (bit_xor q (bit_xor r s))) (bit_xor v w) (xor_byte k (bit_xor q (bit_xor r s)) fk fqrs) (xor_byte v w fv fw)
      ∙ ap (bit_xor (from_basis (bit_xor k (bit_xor q (bit_xor r s))))) (linear v w fv fw)
      ∙ ap (λ n. bit_xor n (bit_xor (from_basis v) (from_basis w)))
      (linear k (bit_xor q (bit_xor r s)) fk fqrs ∙ ap (bit_xor (from_basis k)) (linear q (bit_xor r s) fq frs ∙ ap (bit_xor (from_basis q)) (linear r s fr fs)))

-- a byte of the key, and four bytes of the state
lane : (k a b c d : ℕ) → k < 256 → a < 256 → b < 256 → c < 256 → d < 256
    → from_basis (bit_xor (bit_xor k (bit_xor (twice a) (bit_xor (twice b) (once b)))) (bit_xor (once c) (once d)))
    ≡ bit_xor (key_from_basis k) (bit_xor (bit_xor (xtime (s_box (from_basis a))) (bit_xor (xtime (s_box (from_basis b))) (s_box (from_basis b)))) (bit_xor (s_box (from_basis c)) (s_box (from_basis d))))
unfolding key_from_basis
lane k a b c d fk fa fb fc fd =
    let two : (x : ℕ) → x < 256 → bit_xor (from_basis (twice x)) 198 ≡ xtime (s_box (from_basis x)) = λ x fx. agree_at (λ b. bit_xor (from_basis (twice b)) 198) (λ b. xtime (s_box (from_basis b))) all_twice x fx in
    let one : (x : ℕ) → x < 256 → bit_xor (from_basis (once x)) 99 ≡ s_box (from_basis x) = λ x fx. agree_at (λ b. bit_xor (from_basis (once b)) 99) (λ b. s_box (from_basis b)) all_once x fx in
    rw (← two a fa, ← two b fb, ← one b fb, ← one c fc, ← one d fd)
    (spread k (twice a) (twice b) (once b) (once c) (once d) fk (byte_by twice all_twice_bytes a fa) (byte_by twice all_twice_bytes b fb) (byte_by once all_once_bytes b fb) (byte_by once all_once_bytes c fc) (byte_by once all_once_bytes d fd)
    ∙ sym (cancelled (from_basis k) (from_basis (twice a)) (from_basis (twice b)) (from_basis (once b)) (from_basis (once c)) (from_basis (once d))))

-- ---- sixteen lanes

abbrev round_by_code : List ℕ → List ℕ → List ℕ → List ℕ
round_by_code key one two =
    zip2 bit_xor (zip2 bit_xor key (zip2 bit_xor (picked places_0 two) (picked places_1 (zip2 bit_xor two one)))) (zip2 bit_xor (picked places_2 one) (picked places_3 one))

lanes : (v key : List ℕ) → IsBlock v → IsBlock key
    → map from_basis (round_by_code key (map once v) (map twice v))
    ≡ zip2 bit_xor (map key_from_basis key) (mix_by_code (map (λ b. s_box (from_basis b)) v) (map (λ b. xtime (s_box (from_basis b))) v))
lanes v key is_v is_key =
    sixteen (λ v. Each1 (Fits w8) v → map from_basis (round_by_code key (map once v) (map twice v)) ≡ zip2 bit_xor (map key_from_basis key) (mix_by_code (map (λ b. s_box (from_basis b)) v) (map (λ b. xtime (s_box (from_basis b))) v)))
    (λ a0 a1 a2 a3 a4 a5 a6 a7 a8 a9 a10 a11 a12 a13 a14 a15 f.
    sixteen (λ key. Each1 (Fits w8) key → map from_basis (round_by_code key (map once (a0 ∷ a1 ∷ a2 ∷ a3 ∷ a4 ∷ a5 ∷ a6 ∷ a7 ∷ a8 ∷ a9 ∷ a10 ∷ a11 ∷ a12 ∷ a13 ∷ a14 ∷ a15 ∷ [])) (map twice (a0 ∷ a1 ∷ a2 ∷ a3 ∷ a4 ∷ a5 ∷ a6 ∷ a7 ∷ a8 ∷ a9 ∷ a10 ∷ a11 ∷ a12 ∷ a13 ∷ a14 ∷ a15 ∷ []))) ≡ zip2 bit_xor (map key_from_basis key) (mix_by_code (map (λ b. s_box (from_basis b)) (a0 ∷ a1 ∷ a2 ∷ a3 ∷ a4 ∷ a5 ∷ a6 ∷ a7 ∷ a8 ∷ a9 ∷ a10 ∷ a11 ∷ a12 ∷ a13 ∷ a14 ∷ a15 ∷ [])) (map (λ b. xtime (s_box (from_basis b))) (a0 ∷ a1 ∷ a2 ∷ a3 ∷ a4 ∷ a5 ∷ a6 ∷ a7 ∷ a8 ∷ a9 ∷ a10 ∷ a11 ∷ a12 ∷ a13 ∷ a14 ∷ a15 ∷ []))))
    (λ c0 c1 c2 c3 c4 c5 c6 c7 c8 c9 c10 c11 c12 c13 c14 c15 g.
    joined (lane c0 a0 a5 a10 a15 g.0.fits f.0.fits f.1.1.1.1.1.0.fits f.1.1.1.1.1.1.1.1.1.1.0.fits f.1.1.1.1.1.1.1.1.1.1.1.1.1.1.1.0.fits) (
    joined (lane c1 a5 a10 a15 a0 g.1.0.fits f.1.1.1.1.1.0.fits f.1.1.1.1.1.1.1.1.1.1.0.fits f.1.1.1.1.1.1.1.1.1.1.1.1.1.1.1.0.fits f.0.fits) (
    joined (lane c2 a10 a15 a0 a5 g.1.1.0.fits f.1.1.1.1.1.1.1.1.1.1.0.fits f.1.1.1.1.1.1.1.1.1.1.1.1.1.1.1.0.fits f.0.fits f.1.1.1.1.1.0.fits) (
    joined (lane c3 a15 a0 a5 a10 g.1.1.1.0.fits f.1.1.1.1.1.1.1.1.1.1.1.1.1.1.1.0.fits f.0.fits f.1.1.1.1.1.0.fits f.1.1.1.1.1.1.1.1.1.1.0.fits) (
    joined (lane c4 a4 a9 a14 a3 g.1.1.1.1.0.fits f.1.1.1.1.0.fits f.1.1.1.1.1.1.1.1.1.0.fits f.1.1.1.1.1.1.1.1.1.1.1.1.1.1.0.fits f.1.1.1.0.fits) (
    joined (lane c5 a9 a14 a3 a4 g.1.1.1.1.1.0.fits f.1.1.1.1.1.1.1.1.1.0.fits f.1.1.1.1.1.1.1.1.1.1.1.1.1.1.0.fits f.1.1.1.0.fits f.1.1.1.1.0.fits) (
    joined (lane c6 a14 a3 a4 a9 g.1.1.1.1.1.1.0.fits f.1.1.1.1.1.1.1.1.1.1.1.1.1.1.0.fits f.1.1.1.0.fits f.1.1.1.1.0.fits f.1.1.1.1.1.1.1.1.1.0.fits) (
    joined (lane c7 a3 a4 a9 a14 g.1.1.1.1.1.1.1.0.fits f.1.1.1.0.fits f.1.1.1.1.0.fits f.1.1.1.1.1.1.1.1.1.0.fits f.1.1.1.1.1.1.1.1.1.1.1.1.1.1.0.fits) (
    joined (lane c8 a8 a13 a2 a7 g.1.1.1.1.1.1.1.1.0.fits f.1.1.1.1.1.1.1.1.0.fits f.1.1.1.1.1.1.1.1.1.1.1.1.1.0.fits f.1.1.0.fits f.1.1.1.1.1.1.1.0.fits) (
    joined (lane c9 a13 a2 a7 a8 g.1.1.1.1.1.1.1.1.1.0.fits f.1.1.1.1.1.1.1.1.1.1.1.1.1.0.fits f.1.1.0.fits f.1.1.1.1.1.1.1.0.fits f.1.1.1.1.1.1.1.1.0.fits) (
    joined (lane c10 a2 a7 a8 a13 g.1.1.1.1.1.1.1.1.1.1.0.fits f.1.1.0.fits f.1.1.1.1.1.1.1.0.fits f.1.1.1.1.1.1.1.1.0.fits f.1.1.1.1.1.1.1.1.1.1.1.1.1.0.fits) (
    joined (lane c11 a7 a8 a13 a2 g.1.1.1.1.1.1.1.1.1.1.1.0.fits f.1.1.1.1.1.1.1.0.fits f.1.1.1.1.1.1.1.1.0.fits f.1.1.1.1.1.1.1.1.1.1.1.1.1.0.fits f.1.1.0.fits) (
    joined (lane c12 a12 a1 a6 a11 g.1.1.1.1.1.1.1.1.1.1.1.1.0.fits f.1.1.1.1.1.1.1.1.1.1.1.1.0.fits f.1.0.fits f.1.1.1.1.1.1.0.fits f.1.1.1.1.1.1.1.1.1.1.1.0.fits) (
    joined (lane c13 a1 a6 a11 a12 g.1.1.1.1.1.1.1.1.1.1.1.1.1.0.fits f.1.0.fits f.1.1.1.1.1.1.0.fits f.1.1.1.1.1.1.1.1.1.1.1.0.fits f.1.1.1.1.1.1.1.1.1.1.1.1.0.fits) (
    joined (lane c14 a6 a11 a12 a1 g.1.1.1.1.1.1.1.1.1.1.1.1.1.1.0.fits f.1.1.1.1.1.1.0.fits f.1.1.1.1.1.1.1.1.1.1.1.0.fits f.1.1.1.1.1.1.1.1.1.1.1.1.0.fits f.1.0.fits) (
    joined (lane c15 a11 a12 a1 a6 g.1.1.1.1.1.1.1.1.1.1.1.1.1.1.1.0.fits f.1.1.1.1.1.1.1.1.1.1.1.0.fits f.1.1.1.1.1.1.1.1.1.1.1.1.0.fits f.1.0.fits f.1.1.1.1.1.1.0.fits) (
    refl)))))))))))))))))
    key is_key.0 is_key.1)
    v is_v.0 is_v.1

all_s_box : all_below (λ b. eqb (s_box (from_basis b) % 256) (s_box (from_basis b))) 256 ≡ true
unfolding product_of_bits multiplicative_inverse s_box from_basis
all_s_box = refl

substituted_fits : (v : List ℕ) → Each1 (Fits w8) v → Each1 (Fits w8) (map (λ b. s_box (from_basis b)) v)
substituted_fits [] fits = tt
substituted_fits (x ∷ xs) fits = (record { fits = byte_by (λ b. s_box (from_basis b)) all_s_box x fits.0.fits }, substituted_fits xs fits.1)

pub round_is : (v key one two : List ℕ) → IsBlock v → IsBlock key → one ≡ map once v → two ≡ map twice v
    → map from_basis (round_by_code key one two) ≡ xor_bytes (map key_from_basis key) (mix_columns (shift_rows (sub_bytes (map from_basis v))))
round_is v key one two is_v is_key e f =
    let s = map (λ b. s_box (from_basis b)) v in
    let long : length s ≡ 16 = length-map v (λ b. s_box (from_basis b)) ∙ is_v.0 in
    ap (λ l. map from_basis (round_by_code key l two)) e ∙ ap (λ l. map from_basis (round_by_code key (map once v) l)) f
    ∙ lanes v key is_v is_key
    ∙ zip2_xor (map key_from_basis key) (mix_by_code s (map (λ b. xtime (s_box (from_basis b))) v))
    ∙ ap (xor_bytes (map key_from_basis key)) (mixed_is s (map (λ b. xtime (s_box (from_basis b))) v) (long, substituted_fits v is_v.1) (sym (map-map xtime (λ b. s_box (from_basis b)) v)))
    ∙ ap (λ l. xor_bytes (map key_from_basis key) (mix_columns (shift_rows l))) (sym (map-map s_box from_basis v))

-- ---- into the basis and out of it

pub to_basis_is : (v r : List ℕ) → IsBlock v → r ≡ map (by_halves INTO_LO INTO_HI) v → map from_basis r ≡ v
to_basis_is v r is e =
    ap (map from_basis) e ∙ map-map from_basis (by_halves INTO_LO INTO_HI) v
    ∙ map_agree (λ b. from_basis (by_halves INTO_LO INTO_HI b)) (λ b. b) v is.1 (agree_at (λ b. from_basis (by_halves INTO_LO INTO_HI b)) (λ b. b) all_back) ∙ map-id v

all_round_keys : all_below (λ b. eqb (key_from_basis (bit_xor b 91)) (from_basis b)) 256 ≡ true
unfolding from_basis key_from_basis
all_round_keys = refl

pub round_key_is : (v : List ℕ) → IsBlock v → map key_from_basis (zip2 bit_xor v (replicate 16 91)) ≡ map from_basis v
round_key_is v is =
    ap (map key_from_basis) (zip2_splat bit_xor v 16 91 is.0) ∙ map-map key_from_basis (λ b. bit_xor b 91) v
    ∙ map_agree (λ b. key_from_basis (bit_xor b 91)) from_basis v is.1 (agree_at (λ b. key_from_basis (bit_xor b 91)) from_basis all_round_keys)

pub from_basis_map : (v r : List ℕ) → r ≡ map (by_halves OUT_LO OUT_HI) v → r ≡ map from_basis v
unfolding from_basis
from_basis_map v r e = e

pub key_from_basis_is : (v r : List ℕ) → IsBlock v → r ≡ map (by_halves OUT_LO OUT_HI) v → zip2 bit_xor r (replicate 16 99) ≡ map key_from_basis v
unfolding from_basis key_from_basis
key_from_basis_is v r is e = zip2_of_maps bit_xor (by_halves OUT_LO OUT_HI) (λ b. 99) v e (splat_is_map v 16 99 is.0)

pub in_basis_is : (u t v : List ℕ) {i j r : List ℕ} → i ≡ map half_i v → j ≡ map half_j v → r ≡ zip2 bit_xor (map (look_at u) i) (map (look_at t) j) → r ≡ map (by_inverse u t) v
unfolding by_inverse
in_basis_is u t v {i} {j} {r} ei ej er = er ∙ looked_both u t half_i half_j v ei refl ej refl

pub from_basis_is : (v : List ℕ) {i j r : List ℕ} → IsBlock v → i ≡ map half_i v → j ≡ map half_j v → r ≡ zip2 bit_xor (map (look_at LAST_I) i) (map (look_at LAST_J) j) → zip2 bit_xor r (replicate 16 99) ≡ sub_bytes (map from_basis v)
from_basis_is v {i} {j} {r} is ei ej er =
    zip2_of_maps bit_xor (λ b. bit_xor (look_at LAST_I (half_i b)) (look_at LAST_J (half_j b))) (λ b. 99) v
    (er ∙ looked_both LAST_I LAST_J half_i half_j v ei refl ej refl)
    (splat_is_map v 16 99 is.0)
    ∙ map_agree (λ b. bit_xor (bit_xor (look_at LAST_I (half_i b)) (look_at LAST_J (half_j b))) 99) (λ b. s_box (from_basis b)) v is.1 (agree_at (λ b. bit_xor (bit_xor (look_at LAST_I (half_i b)) (look_at LAST_J (half_j b))) 99) (λ b. s_box (from_basis b)) all_out)
    ∙ sym (map-map s_box from_basis v)
