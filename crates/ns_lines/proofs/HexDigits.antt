-- Hex digits of eight bytes, side by side.
use Rattle.std.proofs.Common.{◌≡◌, IsAscii, ◌&&◌, ltb, zero, suc, ℕ, ◌/◌, ◌%◌, ◌^◌, ◌<◌, Bool, true, List, [], ◌∷◌, ◌++◌, map, length, replicate, get_or, bit_and, w8, Fits, refl, sym, ap, subst, ◌∙◌, arith}
use Rattle.std.proofs.lemmas.Bool.{and_parts, ltb-true}
use Rattle.std.specs.Simd.Lanes.{Each1, zip2, pick_l}
use Rattle.hex.specs.Hex.{encode_with, encode_lower, lower_digits}
use Rattle.ns_aes_cmac.specs.Lookups.{look_at, is_place, ArePlaces}
use Rattle.ns_aes_cmac.proofs.Bytes.{all_below, all_below-at, agree_at}
use Rattle.ns_aes_cmac.proofs.Mix.{joined}

all_small : List ℕ → Bool
all_small [] = true
all_small (x ∷ xs) = ltb x 128 && all_small xs

small_at : (t : List ℕ) → all_small t ≡ true → (i : ℕ) → get_or t i 0 < 128
unfolding all_small
small_at [] h i = omega arith
small_at (x ∷ xs) h zero = ltb-true x 128 (and_parts (ltb x 128) (all_small xs) h).0
small_at (x ∷ xs) h (suc i) = small_at xs (and_parts (ltb x 128) (all_small xs) h).1 i

pub ascii_digits : IsAscii lower_digits
unfolding all_small
ascii_digits = small_at lower_digits refl

high_digit : (b : ℕ) → b < 256 → look_at lower_digits (b / 2 ^ 4) ≡ get_or lower_digits (b / 16) 0
high_digit = agree_at (λ b. look_at lower_digits (b / 2 ^ 4)) (λ b. get_or lower_digits (b / 16) 0) refl

low_digit : (b : ℕ) → b < 256 → look_at lower_digits (bit_and b 15) ≡ get_or lower_digits (b % 16) 0
low_digit = agree_at (λ b. look_at lower_digits (bit_and b 15)) (λ b. get_or lower_digits (b % 16) 0) refl

high_place : (b : ℕ) → b < 256 → is_place (b / 2 ^ 4) ≡ true
high_place = all_below-at (λ b. is_place (b / 2 ^ 4)) 256 refl

low_place : (b : ℕ) → b < 256 → is_place (bit_and b 15) ≡ true
low_place = all_below-at (λ b. is_place (bit_and b 15)) 256 refl

-- the halves of eight bytes in turn
abbrev pub halves : List ℕ → List ℕ
halves v =
    pick_l 0 (zip2 (λ a b. a / 2 ^ b) v (replicate 8 4) ++ zip2 bit_and v (replicate 8 15))
    (0 ∷ 8 ∷ 1 ∷ 9 ∷ 2 ∷ 10 ∷ 3 ∷ 11 ∷ 4 ∷ 12 ∷ 5 ∷ 13 ∷ 6 ∷ 14 ∷ 7 ∷ 15 ∷ [])

-- the halves of each byte in turn
halves_of : List ℕ → List ℕ
halves_of [] = []
halves_of (b ∷ bs) = b / 2 ^ 4 ∷ bit_and b 15 ∷ halves_of bs

halves-of : (v : List ℕ) → length v ≡ 8 → halves v ≡ halves_of v
unfolding halves_of
halves-of (a0 ∷ a1 ∷ a2 ∷ a3 ∷ a4 ∷ a5 ∷ a6 ∷ a7 ∷ []) long = refl
halves-of _ long = absurd (omega (arith, long))

places_of : (v : List ℕ) → Each1 (Fits w8) v → ArePlaces (halves_of v)
unfolding halves_of
places_of [] fits = tt
places_of (b ∷ bs) fits = (high_place b fits.0.fits, (low_place b fits.0.fits, places_of bs fits.1))

text_of : (v : List ℕ) → Each1 (Fits w8) v → map (look_at lower_digits) (halves_of v) ≡ encode_lower v
unfolding halves_of encode_with
text_of [] fits = refl
text_of (b ∷ bs) fits = joined (high_digit b fits.0.fits) (joined (low_digit b fits.0.fits) (text_of bs fits.1))

pub are_places : (v : List ℕ) → length v ≡ 8 → Each1 (Fits w8) v → ArePlaces (halves v)
are_places v long fits = subst ArePlaces (sym (halves-of v long)) (places_of v fits)

pub text_of_halves : (v : List ℕ) → length v ≡ 8 → Each1 (Fits w8) v → map (look_at lower_digits) (halves v) ≡ encode_lower v
text_of_halves v long fits = ap (map (look_at lower_digits)) (halves-of v long) ∙ text_of v fits

-- ---- four bytes, as the first half of eight

-- four bytes and as many of no meaning
abbrev pub padded : List ℕ → List ℕ
padded v = get_or v 0 0 ∷ get_or v 1 0 ∷ get_or v 2 0 ∷ get_or v 3 0 ∷ 0 ∷ 0 ∷ 0 ∷ 0 ∷ []

-- the first half of sixteen
abbrev pub first_half : List ℕ → List ℕ
first_half r =
    get_or (r ++ r) 0 0 ∷ get_or (r ++ r) 1 0 ∷ get_or (r ++ r) 2 0 ∷ get_or (r ++ r) 3 0
    ∷ get_or (r ++ r) 4 0 ∷ get_or (r ++ r) 5 0 ∷ get_or (r ++ r) 6 0 ∷ get_or (r ++ r) 7 0 ∷ []

pub text_of_padded : (v : List ℕ) → length v ≡ 4 → first_half (encode_lower (padded v)) ≡ encode_lower v
unfolding encode_with
text_of_padded (a0 ∷ a1 ∷ a2 ∷ a3 ∷ []) long = refl
text_of_padded _ long = absurd (omega (arith, long))
