-- Deciphering undoes enciphering, and the other way round.
use Rattle.std.proofs.Common.{◌≡◌, ℕ, zero, suc, ◌*◌, ◌/◌, ◌%◌, ◌<◌, eqb, Bool, true, false, List, [], ◌∷◌, map, length, drop, bit_xor, refl, sym, ap, ◌∙◌, arith, if◌then◌else◌, ◌==◌}
use Rattle.std.proofs.lemmas.Nat.{xor_comm}
use Rattle.std.proofs.lemmas.List.{length-map}
use Rattle.std.proofs.lemmas.Simd.{Each1-from_get_or}
use lib.Bits.{xor_assoc, xor_self, xor_zero_r}
use lib.Lanes.{Each1}
use mathlib.Core.List.{reverse, reverse_aux}
use Rattle.ns_aes_cmac.specs.Aes.{xtime, product_of_bits, multiply, multiplicative_inverse, s_box, inverse_s_box, sub_bytes, inverse_sub_bytes, shift_rows, inverse_shift_rows, sum_of_products, mix_columns_by, mix_columns, inverse_mix_columns, xor_bytes, next_round_key, round_keys_by, round_keys, round_constants, first_key, rounds, inverse_rounds, aes, unaes, IsBlock}
use Rattle.ns_aes_cmac.proofs.Bytes.{all_below, all_below-at, agree_at}
use Rattle.ns_aes_cmac.proofs.InBasis.{byte_by, xor_byte, swap}
use Rattle.ns_aes_cmac.proofs.Rounds.{full, rounds-next, rounds-end}
use Rattle.ns_aes_cmac.proofs.Back.{inverse_full, inverse_rounds-next, inverse_rounds-end}
use Rattle.ns_aes_cmac.proofs.Mix.{sixteen, joined}

-- n bytes
abbrev Bytes : ℕ → List ℕ → Type 0
Bytes n l = (length l ≡ n) × Each1 (λ b. b < 256) l

-- ---- the product is linear

xtime_pairs : all_below (λ x. all_below (λ y. eqb (xtime (bit_xor x y)) (bit_xor (xtime x) (xtime y))) 256) 256 ≡ true
xtime_pairs = refl

xtime_xor : (x y : ℕ) → x < 256 → y < 256 → xtime (bit_xor x y) ≡ bit_xor (xtime x) (xtime y)
xtime_xor x y fx fy = agree_at (λ y. xtime (bit_xor x y)) (λ y. bit_xor (xtime x) (xtime y)) (all_below-at (λ x. all_below (λ y. eqb (xtime (bit_xor x y)) (bit_xor (xtime x) (xtime y))) 256) 256 xtime_pairs x fx) y fy

all_xtime : all_below (λ b. eqb (xtime b % 256) (xtime b)) 256 ≡ true
all_xtime = refl

all_s_box : all_below (λ b. eqb (s_box b % 256) (s_box b)) 256 ≡ true
unfolding product_of_bits multiplicative_inverse s_box
all_s_box = refl

all_inverse_s_box : all_below (λ b. eqb (inverse_s_box b % 256) (inverse_s_box b)) 256 ≡ true
unfolding product_of_bits multiplicative_inverse inverse_s_box
all_inverse_s_box = refl

if_xor : (t : Bool) (x y : ℕ) → (if t then bit_xor x y else 0) ≡ bit_xor (if t then x else 0) (if t then y else 0)
if_xor true x y = refl
if_xor false x y = refl

if_byte : (t : Bool) (x : ℕ) → x < 256 → (if t then x else 0) < 256
if_byte true x fx = fx
if_byte false x fx = omega arith

product_xor : (n a x y : ℕ) → x < 256 → y < 256 → product_of_bits n a (bit_xor x y) ≡ bit_xor (product_of_bits n a x) (product_of_bits n a y)
unfolding product_of_bits
product_xor zero a x y fx fy = refl
product_xor (suc n) a x y fx fy =
    ap (λ m. bit_xor m (product_of_bits n (a / 2) (xtime (bit_xor x y)))) (if_xor (a % 2 == 1) x y)
    ∙ ap (bit_xor (bit_xor (if a % 2 == 1 then x else 0) (if a % 2 == 1 then y else 0))) (ap (product_of_bits n (a / 2)) (xtime_xor x y fx fy) ∙ product_xor n (a / 2) (xtime x) (xtime y) (byte_by xtime all_xtime x fx) (byte_by xtime all_xtime y fy))
    ∙ swap (if a % 2 == 1 then x else 0) (if a % 2 == 1 then y else 0) (product_of_bits n (a / 2) (xtime x)) (product_of_bits n (a / 2) (xtime y))

product_byte : (n a x : ℕ) → x < 256 → product_of_bits n a x < 256
unfolding product_of_bits
product_byte zero a x fx = omega arith
product_byte (suc n) a x fx = xor_byte _ _ (if_byte (a % 2 == 1) x fx) (product_byte n (a / 2) (xtime x) (byte_by xtime all_xtime x fx))

sum_byte : (a b c d w x y z : ℕ) → w < 256 → x < 256 → y < 256 → z < 256 → sum_of_products a b c d w x y z < 256
sum_byte a b c d w x y z fw fx fy fz = xor_byte _ _ (xor_byte _ _ (product_byte 8 a w fw) (product_byte 8 b x fx)) (xor_byte _ _ (product_byte 8 c y fy) (product_byte 8 d z fz))

-- ---- two matrices, one after the other

-- a product of four sums
spread : (m p q r s : ℕ) → p < 256 → q < 256 → r < 256 → s < 256
    → multiply m (bit_xor (bit_xor p q) (bit_xor r s)) ≡ bit_xor (bit_xor (multiply m p) (multiply m q)) (bit_xor (multiply m r) (multiply m s))
spread m p q r s fp fq fr fs =
    product_xor 8 m (bit_xor p q) (bit_xor r s) (xor_byte p q fp fq) (xor_byte r s fr fs)
    ∙ ap (λ n. bit_xor n (multiply m (bit_xor r s))) (product_xor 8 m p q fp fq)
    ∙ ap (bit_xor (bit_xor (multiply m p) (multiply m q))) (product_xor 8 m r s fr fs)

abbrev four : ℕ → ℕ → ℕ → ℕ → ℕ
four a b c d = bit_xor (bit_xor a b) (bit_xor c d)

-- two sums of four, added place by place
added : (a0 a1 a2 a3 b0 b1 b2 b3 : ℕ) → bit_xor (four a0 a1 a2 a3) (four b0 b1 b2 b3) ≡ four (bit_xor a0 b0) (bit_xor a1 b1) (bit_xor a2 b2) (bit_xor a3 b3)
added a0 a1 a2 a3 b0 b1 b2 b3 =
    swap (bit_xor a0 a1) (bit_xor a2 a3) (bit_xor b0 b1) (bit_xor b2 b3)
    ∙ ap (λ n. bit_xor n (bit_xor (bit_xor a2 a3) (bit_xor b2 b3))) (swap a0 a1 b0 b1)
    ∙ ap (bit_xor (bit_xor (bit_xor a0 b0) (bit_xor a1 b1))) (swap a2 a3 b2 b3)

-- four sums of four, by columns
by_columns : (a0 a1 a2 a3 b0 b1 b2 b3 c0 c1 c2 c3 d0 d1 d2 d3 : ℕ)
    → four (four a0 a1 a2 a3) (four b0 b1 b2 b3) (four c0 c1 c2 c3) (four d0 d1 d2 d3) ≡ four (four a0 b0 c0 d0) (four a1 b1 c1 d1) (four a2 b2 c2 d2) (four a3 b3 c3 d3)
by_columns a0 a1 a2 a3 b0 b1 b2 b3 c0 c1 c2 c3 d0 d1 d2 d3 =
    ap (λ n. bit_xor n (bit_xor (four c0 c1 c2 c3) (four d0 d1 d2 d3))) (added a0 a1 a2 a3 b0 b1 b2 b3)
    ∙ ap (bit_xor (four (bit_xor a0 b0) (bit_xor a1 b1) (bit_xor a2 b2) (bit_xor a3 b3))) (added c0 c1 c2 c3 d0 d1 d2 d3)
    ∙ added (bit_xor a0 b0) (bit_xor a1 b1) (bit_xor a2 b2) (bit_xor a3 b3) (bit_xor c0 d0) (bit_xor c1 d1) (bit_xor c2 d2) (bit_xor c3 d3)

-- an entry of the product of two matrices, times a byte: a row a b c d, and a column p q r s
abbrev entry : ℕ → ℕ → ℕ → ℕ → ℕ → ℕ → ℕ → ℕ → ℕ → ℕ
entry a b c d p q r s x = four (multiply a (multiply p x)) (multiply b (multiply q x)) (multiply c (multiply r x)) (multiply d (multiply s x))

-- a row a b c d of one matrix, after another whose first row is p q r s
module _ (a b c d p q r s w x y z : ℕ) (fw : w < 256) (fx : x < 256) (fy : y < 256) (fz : z < 256) where
  row_of_both : sum_of_products a b c d (sum_of_products p q r s w x y z) (sum_of_products s p q r w x y z) (sum_of_products r s p q w x y z) (sum_of_products q r s p w x y z)
      ≡ four (entry a b c d p s r q w) (entry a b c d q p s r x) (entry a b c d r q p s y) (entry a b c d s r q p z)
  row_of_both =
      rw (out a p q r s, out b s p q r, out c r s p q, out d q r s p)
      (by_columns (multiply a (multiply p w)) (multiply a (multiply q x)) (multiply a (multiply r y)) (multiply a (multiply s z))
      (multiply b (multiply s w)) (multiply b (multiply p x)) (multiply b (multiply q y)) (multiply b (multiply r z))
      (multiply c (multiply r w)) (multiply c (multiply s x)) (multiply c (multiply p y)) (multiply c (multiply q z))
      (multiply d (multiply q w)) (multiply d (multiply r x)) (multiply d (multiply s y)) (multiply d (multiply p z)))
    where
      parts : ℕ → ℕ → ℕ → ℕ → ℕ → ℕ
      parts m e f g h = four (multiply m (multiply e w)) (multiply m (multiply f x)) (multiply m (multiply g y)) (multiply m (multiply h z))

      out : (m e f g h : ℕ) → multiply m (sum_of_products e f g h w x y z) ≡ parts m e f g h
      out m e f g h = spread m (multiply e w) (multiply f x) (multiply g y) (multiply h z) (product_byte 8 e w fw) (product_byte 8 f x fx) (product_byte 8 g y fy) (product_byte 8 h z fz)

four_is : {a b c d p q r s : ℕ} → a ≡ p → b ≡ q → c ≡ r → d ≡ s → four a b c d ≡ four p q r s
four_is e f g h = cc

turned_four : (a b c d : ℕ) → four a b c d ≡ four d a b c
turned_four a b c d = ap (bit_xor (bit_xor a b)) (xor_comm c d) ∙ swap a b d c ∙ ap (λ n. bit_xor n (bit_xor b c)) (xor_comm a d)

-- the first row of a product of two circulant matrices, by their first rows: its entries, as functions of a byte
abbrev FirstRow : (a b c d p q r s : ℕ) → (f g h i : ℕ → ℕ) → Type 0
FirstRow a b c d p q r s f g h i = (x : ℕ) → x < 256
    → (entry a b c d p s r q x ≡ f x) × (entry a b c d q p s r x ≡ g x) × (entry a b c d r q p s x ≡ h x) × (entry a b c d s r q p x ≡ i x)

-- the next row is the one before, turned by one place
next_row : (a b c d p q r s : ℕ) (f g h i : ℕ → ℕ) → FirstRow a b c d p q r s f g h i → FirstRow d a b c p q r s i f g h
next_row a b c d p q r s f g h i row x fx =
    let e = row x fx in
    (sym (turned a b c d s r q p) ∙ e.3, sym (turned a b c d p s r q) ∙ e.0, sym (turned a b c d q p s r) ∙ e.1, sym (turned a b c d r q p s) ∙ e.2)
  where
    turned : (a b c d p q r s : ℕ) → entry a b c d p q r s x ≡ entry d a b c s p q r x
    turned a b c d p q r s = turned_four (multiply a (multiply p x)) (multiply b (multiply q x)) (multiply c (multiply r x)) (multiply d (multiply s x))

abbrev same : ℕ → ℕ
same n = n

abbrev none : ℕ → ℕ
none n = 0

-- the first row of the identity
abbrev IsUndoneBy : (a b c d p q r s : ℕ) → Type 0
IsUndoneBy p q r s a b c d = FirstRow a b c d p q r s same none none none

module _ (w x y z : ℕ) (fw : w < 256) (fx : x < 256) (fy : y < 256) (fz : z < 256) where
  row_of : (a b c d p q r s : ℕ) (f g h i : ℕ → ℕ) → FirstRow a b c d p q r s f g h i
      → sum_of_products a b c d (sum_of_products p q r s w x y z) (sum_of_products s p q r w x y z) (sum_of_products r s p q w x y z) (sum_of_products q r s p w x y z) ≡ four (f w) (g x) (h y) (i z)
  row_of a b c d p q r s f g h i row =
      row_of_both a b c d p q r s w x y z fw fx fy fz ∙ four_is ((row w fw).0) ((row x fx).1) ((row y fy).2) ((row z fz).3)

-- columns mixed by a matrix, and by one that undoes it
module _ (a b c d p q r s : ℕ) (row : IsUndoneBy p q r s a b c d) where
  second : FirstRow d a b c p q r s none same none none
  second = next_row a b c d p q r s same none none none row

  third : FirstRow c d a b p q r s none none same none
  third = next_row d a b c p q r s none same none none second

  fourth : FirstRow b c d a p q r s none none none same
  fourth = next_row c d a b p q r s none none same none third

  unmixed : (n : ℕ) (v : List ℕ) → length v ≡ n * 4 → Each1 (λ b. b < 256) v → mix_columns_by a b c d (mix_columns_by p q r s v) ≡ v
  unfolding mix_columns_by
  unmixed n [] long fits = refl
  unmixed (suc n) (w ∷ x ∷ y ∷ z ∷ v) long (fw, (fx, (fy, (fz, fits)))) =
      joined (row_of w x y z fw fx fy fz a b c d p q r s same none none none row ∙ ap (λ n. bit_xor n 0) (xor_zero_r w) ∙ xor_zero_r w) (
      joined (row_of w x y z fw fx fy fz d a b c p q r s none same none none second ∙ xor_zero_r x) (
      joined (row_of w x y z fw fx fy fz c d a b p q r s none none same none third ∙ xor_zero_r y) (
      joined (row_of w x y z fw fx fy fz b c d a p q r s none none none same fourth) (
      unmixed n v (omega (arith, long)) fits))))
  unmixed n v long fits = absurd (omega (arith, long))

-- MixColumns and its inverse undo each other: four entries of each product, on every byte
entries : (f g h i : ℕ → ℕ) → all_below (λ x. eqb (f x) x) 256 ≡ true → all_below (λ x. eqb (g x) 0) 256 ≡ true → all_below (λ x. eqb (h x) 0) 256 ≡ true → all_below (λ x. eqb (i x) 0) 256 ≡ true
    → (x : ℕ) → x < 256 → (f x ≡ x) × (g x ≡ 0) × (h x ≡ 0) × (i x ≡ 0)
entries f g h i tf tg th ti x fx = (agree_at f same tf x fx, agree_at g none tg x fx, agree_at h none th x fx, agree_at i none ti x fx)

undone_forth : IsUndoneBy 2 3 1 1 14 11 13 9
unfolding product_of_bits
undone_forth = entries (entry 14 11 13 9 2 1 1 3) (entry 14 11 13 9 3 2 1 1) (entry 14 11 13 9 1 3 2 1) (entry 14 11 13 9 1 1 3 2) refl refl refl refl

undone_back : IsUndoneBy 14 11 13 9 2 3 1 1
unfolding product_of_bits
undone_back = entries (entry 2 3 1 1 14 9 13 11) (entry 2 3 1 1 11 14 9 13) (entry 2 3 1 1 13 11 14 9) (entry 2 3 1 1 9 13 11 14) refl refl refl refl

mixed_forth : (v : List ℕ) → Bytes 16 v → inverse_mix_columns (mix_columns v) ≡ v
mixed_forth v bytes = unmixed 14 11 13 9 2 3 1 1 undone_forth 4 v bytes.0 bytes.1

mixed_back : (v : List ℕ) → Bytes 16 v → mix_columns (inverse_mix_columns v) ≡ v
mixed_back v bytes = unmixed 2 3 1 1 14 11 13 9 undone_back 4 v bytes.0 bytes.1

-- ---- the other steps

shifted_forth : (v : List ℕ) → length v ≡ 16 → inverse_shift_rows (shift_rows v) ≡ v
shifted_forth v long = sixteen (λ v. inverse_shift_rows (shift_rows v) ≡ v) (λ a0 a1 a2 a3 a4 a5 a6 a7 a8 a9 a10 a11 a12 a13 a14 a15. refl) v long

shifted_back : (v : List ℕ) → length v ≡ 16 → shift_rows (inverse_shift_rows v) ≡ v
shifted_back v long = sixteen (λ v. shift_rows (inverse_shift_rows v) ≡ v) (λ a0 a1 a2 a3 a4 a5 a6 a7 a8 a9 a10 a11 a12 a13 a14 a15. refl) v long

map_undone : (f g : ℕ → ℕ) → all_below (λ b. eqb (g (f b)) b) 256 ≡ true → (v : List ℕ) → Each1 (λ b. b < 256) v → map g (map f v) ≡ v
map_undone f g test [] fits = refl
map_undone f g test (x ∷ xs) fits = joined (agree_at (λ b. g (f b)) same test x fits.0) (map_undone f g test xs fits.1)

s_box_forth : all_below (λ b. eqb (inverse_s_box (s_box b)) b) 256 ≡ true
unfolding product_of_bits multiplicative_inverse s_box inverse_s_box
s_box_forth = refl

s_box_back : all_below (λ b. eqb (s_box (inverse_s_box b)) b) 256 ≡ true
unfolding product_of_bits multiplicative_inverse s_box inverse_s_box
s_box_back = refl

twice_added : (k v : List ℕ) → length v ≡ length k → xor_bytes k (xor_bytes k v) ≡ v
unfolding xor_bytes
twice_added [] [] e = refl
twice_added [] (y ∷ ys) e = absurd (omega (arith, e))
twice_added (x ∷ xs) [] e = refl
twice_added (x ∷ xs) (y ∷ ys) e = joined (sym (xor_assoc x x y) ∙ ap (λ n. bit_xor n y) (xor_self x)) (twice_added xs ys (omega (arith, e)))

-- ---- each step gives bytes

mapped_bytes : (f : ℕ → ℕ) → ((b : ℕ) → b < 256 → f b < 256) → (v : List ℕ) → Each1 (λ b. b < 256) v → Each1 (λ b. b < 256) (map f v)
mapped_bytes f h [] fits = tt
mapped_bytes f h (x ∷ xs) fits = (h x fits.0, mapped_bytes f h xs fits.1)

sub_bytes-bytes : (v : List ℕ) → Bytes 16 v → Bytes 16 (sub_bytes v)
sub_bytes-bytes v bytes = (length-map v s_box ∙ bytes.0, mapped_bytes s_box (byte_by s_box all_s_box) v bytes.1)

inverse_sub_bytes-bytes : (v : List ℕ) → Bytes 16 v → Bytes 16 (inverse_sub_bytes v)
inverse_sub_bytes-bytes v bytes = (length-map v inverse_s_box ∙ bytes.0, mapped_bytes inverse_s_box (byte_by inverse_s_box all_inverse_s_box) v bytes.1)

shift_rows-bytes : (v : List ℕ) → Bytes 16 v → Bytes 16 (shift_rows v)
shift_rows-bytes v bytes = sixteen (λ v. Each1 (λ b. b < 256) v → Bytes 16 (shift_rows v)) (λ a0 a1 a2 a3 a4 a5 a6 a7 a8 a9 a10 a11 a12 a13 a14 a15 f. (refl, (f.0, (f.1.1.1.1.1.0, (f.1.1.1.1.1.1.1.1.1.1.0, (f.1.1.1.1.1.1.1.1.1.1.1.1.1.1.1.0, (f.1.1.1.1.0, (f.1.1.1.1.1.1.1.1.1.0, (f.1.1.1.1.1.1.1.1.1.1.1.1.1.1.0, (f.1.1.1.0, (f.1.1.1.1.1.1.1.1.0, (f.1.1.1.1.1.1.1.1.1.1.1.1.1.0, (f.1.1.0, (f.1.1.1.1.1.1.1.0, (f.1.1.1.1.1.1.1.1.1.1.1.1.0, (f.1.0, (f.1.1.1.1.1.1.0, (f.1.1.1.1.1.1.1.1.1.1.1.0, tt)))))))))))))))))) v bytes.0 bytes.1

inverse_shift_rows-bytes : (v : List ℕ) → Bytes 16 v → Bytes 16 (inverse_shift_rows v)
inverse_shift_rows-bytes v bytes = sixteen (λ v. Each1 (λ b. b < 256) v → Bytes 16 (inverse_shift_rows v)) (λ a0 a1 a2 a3 a4 a5 a6 a7 a8 a9 a10 a11 a12 a13 a14 a15 f. (refl, (f.0, (f.1.1.1.1.1.1.1.1.1.1.1.1.1.0, (f.1.1.1.1.1.1.1.1.1.1.0, (f.1.1.1.1.1.1.1.0, (f.1.1.1.1.0, (f.1.0, (f.1.1.1.1.1.1.1.1.1.1.1.1.1.1.0, (f.1.1.1.1.1.1.1.1.1.1.1.0, (f.1.1.1.1.1.1.1.1.0, (f.1.1.1.1.1.0, (f.1.1.0, (f.1.1.1.1.1.1.1.1.1.1.1.1.1.1.1.0, (f.1.1.1.1.1.1.1.1.1.1.1.1.0, (f.1.1.1.1.1.1.1.1.1.0, (f.1.1.1.1.1.1.0, (f.1.1.1.0, tt)))))))))))))))))) v bytes.0 bytes.1

mixed-bytes : (a b c d n : ℕ) (v : List ℕ) → Bytes (n * 4) v → Bytes (n * 4) (mix_columns_by a b c d v)
unfolding mix_columns_by
mixed-bytes a b c d n [] bytes = bytes
mixed-bytes a b c d (suc n) (w ∷ x ∷ y ∷ z ∷ v) (size, (fw, (fx, (fy, (fz, fits))))) =
    let long : length (w ∷ x ∷ y ∷ z ∷ v) ≡ suc n * 4 = size in
    let rest = mixed-bytes a b c d n v (omega (arith, long), fits) in
    let short : length (mix_columns_by a b c d v) ≡ n * 4 = rest.0 in
    let f0 = sum_byte a b c d w x y z fw fx fy fz in
    let f1 = sum_byte d a b c w x y z fw fx fy fz in
    let f2 = sum_byte c d a b w x y z fw fx fy fz in
    let f3 = sum_byte b c d a w x y z fw fx fy fz in
    (omega (arith, short), (f0, (f1, (f2, (f3, rest.1)))))
mixed-bytes a b c d n v bytes = let long : length v ≡ n * 4 = bytes.0 in absurd (omega (arith, long))

mix_columns-bytes : (v : List ℕ) → Bytes 16 v → Bytes 16 (mix_columns v)
mix_columns-bytes v bytes = mixed-bytes 2 3 1 1 4 v bytes

inverse_mix_columns-bytes : (v : List ℕ) → Bytes 16 v → Bytes 16 (inverse_mix_columns v)
inverse_mix_columns-bytes v bytes = mixed-bytes 14 11 13 9 4 v bytes

xor_bytes-bytes : (n : ℕ) (k v : List ℕ) → Bytes n k → Bytes n v → Bytes n (xor_bytes k v)
unfolding xor_bytes
xor_bytes-bytes n [] v bk bv = bk
xor_bytes-bytes n (x ∷ xs) [] bk bv = bv
xor_bytes-bytes n (x ∷ xs) (y ∷ ys) bk bv =
    let size : length (x ∷ xs) ≡ n = bk.0 in
    let size' : length (y ∷ ys) ≡ n = bv.0 in
    let rest = xor_bytes-bytes (length xs) xs ys (refl, bk.1.1) (omega (arith, size, size'), bv.1.1) in
    let long : length (xor_bytes xs ys) ≡ length xs = rest.0 in
    (omega (arith, long, size), (xor_byte x y bk.1.0 bv.1.0, rest.1))

next_round_key-bytes : (rcon : ℕ) (k : List ℕ) → rcon < 256 → Bytes 16 k → Bytes 16 (next_round_key rcon k)
unfolding next_round_key xor_bytes
next_round_key-bytes rcon k fr bytes =
    let z : 0 < 256 = omega arith in
    sixteen (λ k. Each1 (λ b. b < 256) k → Bytes 16 (next_round_key rcon k)) (λ a0 a1 a2 a3 a4 a5 a6 a7 a8 a9 a10 a11 a12 a13 a14 a15 f. (refl, (xor_byte _ _ (f.0) (xor_byte _ _ (byte_by s_box all_s_box a13 (f.1.1.1.1.1.1.1.1.1.1.1.1.1.0)) fr), (xor_byte _ _ (f.1.0) (xor_byte _ _ (byte_by s_box all_s_box a14 (f.1.1.1.1.1.1.1.1.1.1.1.1.1.1.0)) z), (xor_byte _ _ (f.1.1.0) (xor_byte _ _ (byte_by s_box all_s_box a15 (f.1.1.1.1.1.1.1.1.1.1.1.1.1.1.1.0)) z), (xor_byte _ _ (f.1.1.1.0) (xor_byte _ _ (byte_by s_box all_s_box a12 (f.1.1.1.1.1.1.1.1.1.1.1.1.0)) z), (xor_byte _ _ (f.1.1.1.1.0) (xor_byte _ _ (f.0) (xor_byte _ _ (byte_by s_box all_s_box a13 (f.1.1.1.1.1.1.1.1.1.1.1.1.1.0)) fr)), (xor_byte _ _ (f.1.1.1.1.1.0) (xor_byte _ _ (f.1.0) (xor_byte _ _ (byte_by s_box all_s_box a14 (f.1.1.1.1.1.1.1.1.1.1.1.1.1.1.0)) z)), (xor_byte _ _ (f.1.1.1.1.1.1.0) (xor_byte _ _ (f.1.1.0) (xor_byte _ _ (byte_by s_box all_s_box a15 (f.1.1.1.1.1.1.1.1.1.1.1.1.1.1.1.0)) z)), (xor_byte _ _ (f.1.1.1.1.1.1.1.0) (xor_byte _ _ (f.1.1.1.0) (xor_byte _ _ (byte_by s_box all_s_box a12 (f.1.1.1.1.1.1.1.1.1.1.1.1.0)) z)), (xor_byte _ _ (f.1.1.1.1.1.1.1.1.0) (xor_byte _ _ (f.1.1.1.1.0) (xor_byte _ _ (f.0) (xor_byte _ _ (byte_by s_box all_s_box a13 (f.1.1.1.1.1.1.1.1.1.1.1.1.1.0)) fr))), (xor_byte _ _ (f.1.1.1.1.1.1.1.1.1.0) (xor_byte _ _ (f.1.1.1.1.1.0) (xor_byte _ _ (f.1.0) (xor_byte _ _ (byte_by s_box all_s_box a14 (f.1.1.1.1.1.1.1.1.1.1.1.1.1.1.0)) z))), (xor_byte _ _ (f.1.1.1.1.1.1.1.1.1.1.0) (xor_byte _ _ (f.1.1.1.1.1.1.0) (xor_byte _ _ (f.1.1.0) (xor_byte _ _ (byte_by s_box all_s_box a15 (f.1.1.1.1.1.1.1.1.1.1.1.1.1.1.1.0)) z))), (xor_byte _ _ (f.1.1.1.1.1.1.1.1.1.1.1.0) (xor_byte _ _ (f.1.1.1.1.1.1.1.0) (xor_byte _ _ (f.1.1.1.0) (xor_byte _ _ (byte_by s_box all_s_box a12 (f.1.1.1.1.1.1.1.1.1.1.1.1.0)) z))), (xor_byte _ _ (f.1.1.1.1.1.1.1.1.1.1.1.1.0) (xor_byte _ _ (f.1.1.1.1.1.1.1.1.0) (xor_byte _ _ (f.1.1.1.1.0) (xor_byte _ _ (f.0) (xor_byte _ _ (byte_by s_box all_s_box a13 (f.1.1.1.1.1.1.1.1.1.1.1.1.1.0)) fr)))), (xor_byte _ _ (f.1.1.1.1.1.1.1.1.1.1.1.1.1.0) (xor_byte _ _ (f.1.1.1.1.1.1.1.1.1.0) (xor_byte _ _ (f.1.1.1.1.1.0) (xor_byte _ _ (f.1.0) (xor_byte _ _ (byte_by s_box all_s_box a14 (f.1.1.1.1.1.1.1.1.1.1.1.1.1.1.0)) z)))), (xor_byte _ _ (f.1.1.1.1.1.1.1.1.1.1.1.1.1.1.0) (xor_byte _ _ (f.1.1.1.1.1.1.1.1.1.1.0) (xor_byte _ _ (f.1.1.1.1.1.1.0) (xor_byte _ _ (f.1.1.0) (xor_byte _ _ (byte_by s_box all_s_box a15 (f.1.1.1.1.1.1.1.1.1.1.1.1.1.1.1.0)) z)))), (xor_byte _ _ (f.1.1.1.1.1.1.1.1.1.1.1.1.1.1.1.0) (xor_byte _ _ (f.1.1.1.1.1.1.1.1.1.1.1.0) (xor_byte _ _ (f.1.1.1.1.1.1.1.0) (xor_byte _ _ (f.1.1.1.0) (xor_byte _ _ (byte_by s_box all_s_box a12 (f.1.1.1.1.1.1.1.1.1.1.1.1.0)) z)))), tt)))))))))))))))))) k bytes.0 bytes.1

round_keys_by-bytes : (rcons : List ℕ) (k : List ℕ) → Each1 (λ r. r < 256) rcons → Bytes 16 k → Each1 (Bytes 16) (round_keys_by rcons k)
unfolding round_keys_by
round_keys_by-bytes [] k fr bytes = tt
round_keys_by-bytes (rcon ∷ rcons) k fr bytes =
    let next = next_round_key-bytes rcon k fr.0 bytes in
    (next, round_keys_by-bytes rcons (next_round_key rcon k) fr.1 next)

keys-bytes : (key : List ℕ) → Bytes 16 key → Each1 (Bytes 16) (key ∷ round_keys key)
keys-bytes key bytes = (bytes, round_keys_by-bytes round_constants key (omega arith, (omega arith, (omega arith, (omega arith, (omega arith, (omega arith, (omega arith, (omega arith, (omega arith, (omega arith, tt)))))))))) bytes)

-- ---- a round there and back

abbrev mid : List ℕ → List ℕ
mid s = shift_rows (sub_bytes s)

abbrev inverse_mid : List ℕ → List ℕ
inverse_mid s = inverse_sub_bytes (inverse_shift_rows s)

mid-bytes : (s : List ℕ) → Bytes 16 s → Bytes 16 (mid s)
mid-bytes s bytes = shift_rows-bytes (sub_bytes s) (sub_bytes-bytes s bytes)

inverse_mid-bytes : (s : List ℕ) → Bytes 16 s → Bytes 16 (inverse_mid s)
inverse_mid-bytes s bytes = inverse_sub_bytes-bytes (inverse_shift_rows s) (inverse_shift_rows-bytes s bytes)

mid_forth : (s : List ℕ) → Bytes 16 s → inverse_mid (mid s) ≡ s
mid_forth s bytes = ap inverse_sub_bytes (shifted_forth (sub_bytes s) (sub_bytes-bytes s bytes).0) ∙ map_undone s_box inverse_s_box s_box_forth s bytes.1

mid_back : (s : List ℕ) → Bytes 16 s → mid (inverse_mid s) ≡ s
mid_back s bytes =
    ap shift_rows (map_undone inverse_s_box s_box s_box_back (inverse_shift_rows s) (inverse_shift_rows-bytes s bytes).1) ∙ shifted_back s bytes.0

full-bytes : (k s : List ℕ) → Bytes 16 k → Bytes 16 s → Bytes 16 (full k s)
full-bytes k s bk bs = xor_bytes-bytes 16 k (mix_columns (mid s)) bk (mix_columns-bytes (mid s) (mid-bytes s bs))

inverse_full-bytes : (k s : List ℕ) → Bytes 16 k → Bytes 16 s → Bytes 16 (inverse_full k s)
inverse_full-bytes k s bk bs = inverse_mix_columns-bytes (xor_bytes k (inverse_mid s)) (xor_bytes-bytes 16 k (inverse_mid s) bk (inverse_mid-bytes s bs))

undone : (k v : List ℕ) → Bytes 16 k → Bytes 16 v → xor_bytes k (xor_bytes k v) ≡ v
undone k v bk bv = twice_added k v (bv.0 ∙ sym bk.0)

round_forth : (k s : List ℕ) → Bytes 16 k → Bytes 16 s → mid s ≡ inverse_full k (mid (full k s))
round_forth k s bk bs =
    sym (ap (λ l. inverse_mix_columns (xor_bytes k l)) (mid_forth (full k s) (full-bytes k s bk bs))
    ∙ ap inverse_mix_columns (undone k (mix_columns (mid s)) bk (mix_columns-bytes (mid s) (mid-bytes s bs))) ∙ mixed_forth (mid s) (mid-bytes s bs))

round_back : (k s : List ℕ) → Bytes 16 k → Bytes 16 s → inverse_mid s ≡ full k (inverse_mid (inverse_full k s))
round_back k s bk bs =
    sym (ap (λ l. xor_bytes k (mix_columns l)) (mid_back (inverse_full k s) (inverse_full-bytes k s bk bs))
    ∙ ap (xor_bytes k) (mixed_back (xor_bytes k (inverse_mid s)) (xor_bytes-bytes 16 k (inverse_mid s) bk (inverse_mid-bytes s bs))) ∙ undone k (inverse_mid s) bk (inverse_mid-bytes s bs))

-- ---- the whole cipher

bytes_of : (b : List ℕ) → IsBlock b → Bytes 16 b
bytes_of b is = (is.0, Each1-from_get_or (λ x. x < 256) b 0 (λ i h. is.1 i 0 h))

-- rounds, and rounds that undo them under the same keys from the last on: each has its full round; mid is what a round has before its key
module _ (run back : List (List ℕ) → List ℕ → List ℕ) (full undo : List ℕ → List ℕ → List ℕ) (mid : List ℕ → List ℕ)
    (run-end : (k s : List ℕ) → run (k ∷ []) s ≡ xor_bytes k (mid s))
    (run-next : (k l : List ℕ) (ks : List (List ℕ)) (s : List ℕ) → run (k ∷ l ∷ ks) s ≡ run (l ∷ ks) (full k s))
    (back-next : (k l : List ℕ) (ks : List (List ℕ)) (s : List ℕ) → back (k ∷ l ∷ ks) s ≡ back (l ∷ ks) (undo k s))
    (mid-bytes : (s : List ℕ) → Bytes 16 s → Bytes 16 (mid s))
    (full-bytes : (k s : List ℕ) → Bytes 16 k → Bytes 16 s → Bytes 16 (full k s))
    (undo-full : (k s : List ℕ) → Bytes 16 k → Bytes 16 s → mid s ≡ undo k (mid (full k s))) where
  rounds_undone : (k : List ℕ) (ks : List (List ℕ)) (a : List ℕ) (after : List (List ℕ)) (s : List ℕ)
      → Bytes 16 k → Each1 (Bytes 16) ks → Bytes 16 s
      → back (drop 1 (reverse_aux (k ∷ ks) (a ∷ after))) (xor_bytes (first_key (reverse_aux (k ∷ ks) (a ∷ after))) (run (k ∷ ks) s)) ≡ back (a ∷ after) (mid s)
  rounds_undone k [] a after s bk bks bs = ap (back (a ∷ after)) (ap (xor_bytes k) (run-end k s) ∙ undone k (mid s) bk (mid-bytes s bs))
  rounds_undone k (l ∷ ks) a after s bk bks bs =
      ap (λ r. back (drop 1 (reverse_aux (l ∷ ks) (k ∷ a ∷ after))) (xor_bytes (first_key (reverse_aux (l ∷ ks) (k ∷ a ∷ after))) r)) (run-next k l ks s)
      ∙ rounds_undone l ks k (a ∷ after) (full k s) bks.0 bks.1 (full-bytes k s bk bs)
      ∙ back-next k a after (mid (full k s)) ∙ ap (back (a ∷ after)) (sym (undo-full k s bk bs))

pub deciphered : (key b : List ℕ) → IsBlock key → IsBlock b → unaes key (aes key b) ≡ b
unfolding aes unaes round_keys_by
deciphered key b is_key is_block =
    let keys = keys-bytes key (bytes_of key is_key) in
    let bytes = bytes_of b is_block in
    let start = xor_bytes-bytes 16 key b (keys.0) bytes in
    rounds_undone rounds inverse_rounds full inverse_full mid rounds-end rounds-next inverse_rounds-next mid-bytes full-bytes round_forth
    (first_key (round_keys key)) (drop 1 (round_keys key)) key [] (xor_bytes key b) (keys.1.0) (keys.1.1) start
    ∙ inverse_rounds-end key (mid (xor_bytes key b)) ∙ ap (xor_bytes key) (mid_forth (xor_bytes key b) start) ∙ undone key b (keys.0) bytes

pub enciphered : (key b : List ℕ) → IsBlock key → IsBlock b → aes key (unaes key b) ≡ b
unfolding aes unaes round_keys_by
enciphered key b is_key is_block =
    let keys = keys-bytes key (bytes_of key is_key) in
    let bytes = bytes_of b is_block in
    let back = reverse (key ∷ round_keys key) in
    let last = first_key back in
    let front = drop 1 back in
    let g = keys.1 in
    let start = xor_bytes-bytes 16 last b (g.1.1.1.1.1.1.1.1.1.0) bytes in
    rounds_undone inverse_rounds rounds inverse_full full inverse_mid inverse_rounds-end inverse_rounds-next rounds-next inverse_mid-bytes inverse_full-bytes round_back
    (first_key front) (drop 1 front) last [] (xor_bytes last b) (g.1.1.1.1.1.1.1.1.0)
    (g.1.1.1.1.1.1.1.0, (g.1.1.1.1.1.1.0, (g.1.1.1.1.1.0, (g.1.1.1.1.0, (g.1.1.1.0, (g.1.1.0, (g.1.0, (g.0, (keys.0, tt))))))))) start
    ∙ rounds-end last (inverse_mid (xor_bytes last b)) ∙ ap (xor_bytes last) (mid_back (xor_bytes last b) start) ∙ undone last b (g.1.1.1.1.1.1.1.1.1.0) bytes
