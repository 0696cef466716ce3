-- What the look-ups of the code make of each byte. Nothing here needs to be believed: proofs tie it to the S-box.
use Rattle.std.specs.Prelude.{◌≡◌, ℕ, ◌/◌, Bool, true, List, [], ◌∷◌, slice_index, bit_and, bit_xor, if◌then◌else◌, ◌||◌}
use lib.Dec.{leb, ltb}
use lib.Lanes.{Each1}

-- a table of 16 bytes at a place below 16; and 0 from 128 on
abbrev pub look_at : List ℕ → ℕ → ℕ
look_at table j = if leb 128 j then 0 else slice_index table j

abbrev pub is_place : ℕ → Bool
is_place j = leb 128 j || ltb j 16

abbrev pub ArePlaces : List ℕ → Type 0
ArePlaces v = Each1 (λ j. is_place j ≡ true) v

abbrev pub inverses : List ℕ
inverses = 128 ∷ 1 ∷ 8 ∷ 13 ∷ 15 ∷ 6 ∷ 5 ∷ 14 ∷ 2 ∷ 12 ∷ 11 ∷ 10 ∷ 9 ∷ 3 ∷ 7 ∷ 4 ∷ []

abbrev pub inverses_times_a : List ℕ
inverses_times_a = 128 ∷ 7 ∷ 11 ∷ 15 ∷ 6 ∷ 10 ∷ 4 ∷ 1 ∷ 9 ∷ 8 ∷ 5 ∷ 2 ∷ 12 ∷ 14 ∷ 13 ∷ 3 ∷ []

abbrev pub low_half : ℕ → ℕ
low_half b = bit_and b 15

abbrev pub high_half : ℕ → ℕ
high_half b = b / 16

abbrev pub both_halves : ℕ → ℕ
both_halves b = bit_xor (high_half b) (low_half b)

abbrev pub place_i : ℕ → ℕ
place_i b = bit_xor (look_at inverses (high_half b)) (look_at inverses_times_a (low_half b))

abbrev pub place_j : ℕ → ℕ
place_j b = bit_xor (look_at inverses (both_halves b)) (look_at inverses_times_a (low_half b))

-- the halves of the inverse of a byte, in the basis of the look-ups
unfoldable pub half_i : ℕ → ℕ
half_i b = bit_xor (look_at inverses (place_i b)) (both_halves b)

unfoldable pub half_j : ℕ → ℕ
half_j b = bit_xor (look_at inverses (place_j b)) (high_half b)

-- two look-ups of a byte's halves
abbrev pub by_halves : List ℕ → List ℕ → ℕ → ℕ
by_halves low high b = bit_xor (look_at low (low_half b)) (look_at high (high_half b))

-- two look-ups of the halves of the inverse
unfoldable pub by_inverse : List ℕ → List ℕ → ℕ → ℕ
by_inverse u t b = bit_xor (look_at u (half_i b)) (look_at t (half_j b))
