-- Hex digits as vectors read them.
use Rattle.std.specs.Prelude.{ℕ, ◌+◌, ◌*◌, ◌%◌, ◌<◌, List, [], ◌∷◌, bit_and, bit_or}
use Rattle.std.specs.Simd.Lanes.{Each1}
use Rattle.ns_aes_cmac.specs.Lookups.{look_at, low_half, high_half}
use Rattle.ns_steps.specs.HexText.{digit_or_16}
use Rattle.ns_steps.specs.declared.hex_digits.TheConstants.{ADDENDS, FAULTS_HIGH, FAULTS_LOW}

-- the value of a digit, by look-ups of its halves, and 16 or more where the byte is none
abbrev pub value_or_more : ℕ → ℕ
value_or_more c = bit_or ((low_half c + look_at ADDENDS (high_half c)) % 256) (bit_and (look_at FAULTS_HIGH (high_half c)) (look_at FAULTS_LOW (low_half c)))

abbrev pub AreDigits : List ℕ → Type 0
AreDigits text = Each1 (λ c. digit_or_16 c < 16) text

-- the bytes of pairs of digits
abbrev pub bytes_of : List ℕ → List ℕ
bytes_of [] = []
bytes_of (high ∷ []) = []
bytes_of (high ∷ low ∷ rest) = (digit_or_16 high * 16 + digit_or_16 low) ∷ bytes_of rest
