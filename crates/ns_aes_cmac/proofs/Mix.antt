-- The shuffles are the rows and columns of the definition.
use Rattle.std.proofs.Common.{◌≡◌, ℕ, ◌<◌, List, [], ◌∷◌, map, length, ◌++◌, bit_xor, w8, Fits, refl, sym, ap, ◌∙◌, arith}
use Rattle.std.proofs.lemmas.List.{length-map}
use Rattle.std.proofs.lemmas.Nat.{xor_comm}
use lib.Bits.{xor_assoc}
use lib.Lanes.{Each1, zip2, pick_l}
use Rattle.ns_aes_cmac.specs.Aes.{product_of_bits, multiply, xtime, xor_bytes, mix_columns_by, mix_columns, shift_rows, sub_bytes, s_box, sum_of_products}
use Rattle.ns_aes_cmac.proofs.Bytes.{agree_at}
use Rattle.ns_aes_cmac.proofs.Lanes.{IsBlock}

pub zip2_xor : (xs ys : List ℕ) → zip2 bit_xor xs ys ≡ xor_bytes xs ys
unfolding xor_bytes
zip2_xor [] ys = refl
zip2_xor (x ∷ xs) [] = refl
zip2_xor (x ∷ xs) (y ∷ ys) = ap (λ l. bit_xor x y ∷ l) (zip2_xor xs ys)

pub once : (b : ℕ) → b < 256 → multiply 1 b ≡ b
unfolding product_of_bits
once = agree_at (multiply 1) (λ b. b) refl

pub two_times : (b : ℕ) → b < 256 → multiply 2 b ≡ xtime b
unfolding product_of_bits
two_times = agree_at (multiply 2) xtime refl

pub three_times : (b : ℕ) → b < 256 → multiply 3 b ≡ bit_xor (xtime b) b
unfolding product_of_bits
three_times = agree_at (multiply 3) (λ b. bit_xor (xtime b) b) refl

-- ---- a block is 16 bytes

pub sixteen : (P : List ℕ → Type 0) → ((a0 a1 a2 a3 a4 a5 a6 a7 a8 a9 a10 a11 a12 a13 a14 a15 : ℕ) → P (a0 ∷ a1 ∷ a2 ∷ a3 ∷ a4 ∷ a5 ∷ a6 ∷ a7 ∷ a8 ∷ a9 ∷ a10 ∷ a11 ∷ a12 ∷ a13 ∷ a14 ∷ a15 ∷ [])) → (v : List ℕ) → length v ≡ 16 → P v
sixteen P f (a0 ∷ a1 ∷ a2 ∷ a3 ∷ a4 ∷ a5 ∷ a6 ∷ a7 ∷ a8 ∷ a9 ∷ a10 ∷ a11 ∷ a12 ∷ a13 ∷ a14 ∷ a15 ∷ []) long = f a0 a1 a2 a3 a4 a5 a6 a7 a8 a9 a10 a11 a12 a13 a14 a15
sixteen P f v long = absurd (omega (arith, long))

abbrev pub places_0 : List ℕ
places_0 = 0 ∷ 5 ∷ 10 ∷ 15 ∷ 4 ∷ 9 ∷ 14 ∷ 3 ∷ 8 ∷ 13 ∷ 2 ∷ 7 ∷ 12 ∷ 1 ∷ 6 ∷ 11 ∷ []

abbrev pub places_1 : List ℕ
places_1 = 5 ∷ 10 ∷ 15 ∷ 0 ∷ 9 ∷ 14 ∷ 3 ∷ 4 ∷ 13 ∷ 2 ∷ 7 ∷ 8 ∷ 1 ∷ 6 ∷ 11 ∷ 12 ∷ []

abbrev pub places_2 : List ℕ
places_2 = 10 ∷ 15 ∷ 0 ∷ 5 ∷ 14 ∷ 3 ∷ 4 ∷ 9 ∷ 2 ∷ 7 ∷ 8 ∷ 13 ∷ 6 ∷ 11 ∷ 12 ∷ 1 ∷ []

abbrev pub places_3 : List ℕ
places_3 = 15 ∷ 0 ∷ 5 ∷ 10 ∷ 3 ∷ 4 ∷ 9 ∷ 14 ∷ 7 ∷ 8 ∷ 13 ∷ 2 ∷ 11 ∷ 12 ∷ 1 ∷ 6 ∷ []

-- what a swizzle reads
abbrev pub picked : List ℕ → List ℕ → List ℕ
picked ks v = pick_l 0 (v ++ v) ks

abbrev pub mix_by_code : List ℕ → List ℕ → List ℕ
mix_by_code one two = zip2 bit_xor (zip2 bit_xor (picked places_0 two) (picked places_1 (zip2 bit_xor two one))) (zip2 bit_xor (picked places_2 one) (picked places_3 one))

-- ---- a column

left_comm : (a b c : ℕ) → bit_xor a (bit_xor b c) ≡ bit_xor b (bit_xor a c)
left_comm a b c = sym (xor_assoc a b c) ∙ ap (λ n. bit_xor n c) (xor_comm a b) ∙ xor_assoc b a c

-- (a b) (c d) with the last first
pub turned : (a b c d : ℕ) → bit_xor (bit_xor a b) (bit_xor c d) ≡ bit_xor (bit_xor d a) (bit_xor b c)
turned a b c d =
    ap (λ n. bit_xor (bit_xor a b) n) (xor_comm c d) ∙ left_comm (bit_xor a b) d c
    ∙ ap (bit_xor d) (xor_assoc a b c) ∙ sym (xor_assoc d a (bit_xor b c))

abbrev code_row : ℕ → ℕ → ℕ → ℕ → ℕ
code_row w x y z = bit_xor (bit_xor (xtime w) (bit_xor (xtime x) x)) (bit_xor y z)

module _ (w x y z : ℕ) (fw : w < 256) (fx : x < 256) (fy : y < 256) (fz : z < 256) where
  row_0 : code_row w x y z ≡ sum_of_products 2 3 1 1 w x y z
  row_0 = rw (two_times w fw, three_times x fx, once y fy, once z fz) refl

  row_1 : code_row x y z w ≡ sum_of_products 1 2 3 1 w x y z
  row_1 = turned (xtime x) (bit_xor (xtime y) y) z w ∙ rw (once w fw, two_times x fx, three_times y fy, once z fz) refl

  row_2 : code_row y z w x ≡ sum_of_products 1 1 2 3 w x y z
  row_2 = xor_comm (bit_xor (xtime y) (bit_xor (xtime z) z)) (bit_xor w x) ∙ rw (once w fw, once x fx, two_times y fy, three_times z fz) refl

  row_3 : code_row z w x y ≡ sum_of_products 3 1 1 2 w x y z
  row_3 = sym (turned (bit_xor (xtime w) w) x y (xtime z)) ∙ rw (three_times w fw, once x fx, once y fy, two_times z fz) refl

pub joined : {a b : ℕ} {xs ys : List ℕ} → a ≡ b → xs ≡ ys → ◌≡◌ {A = List ℕ} (a ∷ xs) (b ∷ ys)
joined {a} {b} {xs} {ys} e f = ap (λ n. n ∷ xs) e ∙ ap (λ l. b ∷ l) f

mixed_of : (one : List ℕ) → length one ≡ 16 → Each1 (Fits w8) one → mix_by_code one (map xtime one) ≡ mix_columns (shift_rows one)
unfolding mix_columns_by
mixed_of one long =
    sixteen (λ v. Each1 (Fits w8) v → mix_by_code v (map xtime v) ≡ mix_columns (shift_rows v))
    (λ a0 a1 a2 a3 a4 a5 a6 a7 a8 a9 a10 a11 a12 a13 a14 a15 all.
    joined (row_0 a0 a5 a10 a15 all.0.fits all.1.1.1.1.1.0.fits all.1.1.1.1.1.1.1.1.1.1.0.fits all.1.1.1.1.1.1.1.1.1.1.1.1.1.1.1.0.fits) (
    joined (row_1 a0 a5 a10 a15 all.0.fits all.1.1.1.1.1.0.fits all.1.1.1.1.1.1.1.1.1.1.0.fits all.1.1.1.1.1.1.1.1.1.1.1.1.1.1.1.0.fits) (
    joined (row_2 a0 a5 a10 a15 all.0.fits all.1.1.1.1.1.0.fits all.1.1.1.1.1.1.1.1.1.1.0.fits all.1.1.1.1.1.1.1.1.1.1.1.1.1.1.1.0.fits) (
    joined (row_3 a0 a5 a10 a15 all.0.fits all.1.1.1.1.1.0.fits all.1.1.1.1.1.1.1.1.1.1.0.fits all.1.1.1.1.1.1.1.1.1.1.1.1.1.1.1.0.fits) (
    joined (row_0 a4 a9 a14 a3 all.1.1.1.1.0.fits all.1.1.1.1.1.1.1.1.1.0.fits all.1.1.1.1.1.1.1.1.1.1.1.1.1.1.0.fits all.1.1.1.0.fits) (
    joined (row_1 a4 a9 a14 a3 all.1.1.1.1.0.fits all.1.1.1.1.1.1.1.1.1.0.fits all.1.1.1.1.1.1.1.1.1.1.1.1.1.1.0.fits all.1.1.1.0.fits) (
    joined (row_2 a4 a9 a14 a3 all.1.1.1.1.0.fits all.1.1.1.1.1.1.1.1.1.0.fits all.1.1.1.1.1.1.1.1.1.1.1.1.1.1.0.fits all.1.1.1.0.fits) (
    joined (row_3 a4 a9 a14 a3 all.1.1.1.1.0.fits all.1.1.1.1.1.1.1.1.1.0.fits all.1.1.1.1.1.1.1.1.1.1.1.1.1.1.0.fits all.1.1.1.0.fits) (
    joined (row_0 a8 a13 a2 a7 all.1.1.1.1.1.1.1.1.0.fits all.1.1.1.1.1.1.1.1.1.1.1.1.1.0.fits all.1.1.0.fits all.1.1.1.1.1.1.1.0.fits) (
    joined (row_1 a8 a13 a2 a7 all.1.1.1.1.1.1.1.1.0.fits all.1.1.1.1.1.1.1.1.1.1.1.1.1.0.fits all.1.1.0.fits all.1.1.1.1.1.1.1.0.fits) (
    joined (row_2 a8 a13 a2 a7 all.1.1.1.1.1.1.1.1.0.fits all.1.1.1.1.1.1.1.1.1.1.1.1.1.0.fits all.1.1.0.fits all.1.1.1.1.1.1.1.0.fits) (
    joined (row_3 a8 a13 a2 a7 all.1.1.1.1.1.1.1.1.0.fits all.1.1.1.1.1.1.1.1.1.1.1.1.1.0.fits all.1.1.0.fits all.1.1.1.1.1.1.1.0.fits) (
    joined (row_0 a12 a1 a6 a11 all.1.1.1.1.1.1.1.1.1.1.1.1.0.fits all.1.0.fits all.1.1.1.1.1.1.0.fits all.1.1.1.1.1.1.1.1.1.1.1.0.fits) (
    joined (row_1 a12 a1 a6 a11 all.1.1.1.1.1.1.1.1.1.1.1.1.0.fits all.1.0.fits all.1.1.1.1.1.1.0.fits all.1.1.1.1.1.1.1.1.1.1.1.0.fits) (
    joined (row_2 a12 a1 a6 a11 all.1.1.1.1.1.1.1.1.1.1.1.1.0.fits all.1.0.fits all.1.1.1.1.1.1.0.fits all.1.1.1.1.1.1.1.1.1.1.1.0.fits) (
    joined (row_3 a12 a1 a6 a11 all.1.1.1.1.1.1.1.1.1.1.1.1.0.fits all.1.0.fits all.1.1.1.1.1.1.0.fits all.1.1.1.1.1.1.1.1.1.1.1.0.fits) (
    refl)))))))))))))))))
    one long

pub mixed_is : (one two : List ℕ) → IsBlock one → two ≡ map xtime one → mix_by_code one two ≡ mix_columns (shift_rows one)
mixed_is one two block e = ap (mix_by_code one) e ∙ mixed_of one block.0 block.1

shifted : (v : List ℕ) → length v ≡ 16 → picked places_0 v ≡ shift_rows v
shifted v long = sixteen (λ v. picked places_0 v ≡ shift_rows v) (λ a0 a1 a2 a3 a4 a5 a6 a7 a8 a9 a10 a11 a12 a13 a14 a15. refl) v long

pub last_is : (key v one : List ℕ) → length v ≡ 16 → one ≡ sub_bytes v → zip2 bit_xor key (picked places_0 one) ≡ xor_bytes key (shift_rows (sub_bytes v))
last_is key v one long e = zip2_xor key (picked places_0 one) ∙ ap (xor_bytes key) (ap (picked places_0) e ∙ shifted (sub_bytes v) (length-map v s_box ∙ long))

pub round_is : (key v one m : List ℕ) → one ≡ sub_bytes v → m ≡ mix_columns (shift_rows one) → zip2 bit_xor key m ≡ xor_bytes key (mix_columns (shift_rows (sub_bytes v)))
round_is key v one m e f = zip2_xor key m ∙ ap (xor_bytes key) (f ∙ ap (λ l. mix_columns (shift_rows l)) e)
