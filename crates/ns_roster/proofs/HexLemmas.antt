-- The hex of bytes, of an EUI and of a NetID read back.
use Rattle.std.proofs.Common.{◌≡◌, ℕ, zero, suc, ◌^◌, ◌<◌, ◌≤◌, ◌%◌, List, [], ◌∷◌, false, length, Some, None, option_map, refl, sym, ◌∙◌, ap, eqb, arith, slice_index}
use Rattle.std.specs.Int.{w32, w64, byte_at, bytes_high_first, from_be_bytes}
use Rattle.std.proofs.lemmas.Bool.{ne_eqb, and_right}
use Rattle.std.proofs.lemmas.Nat.{from_be_bytes-to_be_bytes_4, from_be_bytes-to_be_bytes_8}
use Rattle.hex.specs.Hex.{encode_lower, lower_digits, hex_digit_value, encode_with, IsBytes}
use Rattle.hex.proofs.HexLemmas.{IsDigits-lower_digits, decode_sized-encode_lower}
use Rattle.ns_roster.specs.Field.{without_0x, hex_bytes, hex_number}
use Rattle.ns_roster.specs.Valid.{max_net_id}

-- no digit is an x
digit_is_no_x : (d : ℕ) → d < 16 → eqb (slice_index lower_digits d) 120 ≡ false
digit_is_no_x d lt = ne_eqb _ _ (λ e. let bad : None ≡ Some d = sym (ap hex_digit_value e) ∙ IsDigits-lower_digits d lt in cc)

-- no 0x stands before the hex of bytes
without_0x-encode_lower : (bytes : List ℕ) → without_0x (encode_lower bytes) ≡ encode_lower bytes
unfolding encode_with
without_0x-encode_lower [] = refl
without_0x-encode_lower (b ∷ rest) = let lt : b % 16 < 16 = omega arith in rw (and_right _ _ (digit_is_no_x (b % 16) lt)) refl

-- the hex of bytes is read back
pub hex_bytes-encode_lower : (bytes : List ℕ) (n : ℕ) → length bytes ≡ n → IsBytes bytes → hex_bytes n (encode_lower bytes) ≡ Some bytes
hex_bytes-encode_lower bytes n sized are = rw (without_0x-encode_lower bytes, decode_sized-encode_lower bytes n sized are) refl

-- the bytes of a number are bytes, and as many as were asked for
IsBytes-bytes_high_first : (k n : ℕ) → IsBytes (bytes_high_first k n)
IsBytes-bytes_high_first zero n i = omega arith
IsBytes-bytes_high_first (suc zero) n zero = omega arith
IsBytes-bytes_high_first (suc (suc k)) n zero = omega arith
IsBytes-bytes_high_first (suc k) n (suc i) = IsBytes-bytes_high_first k n i

length-bytes_high_first : (k n : ℕ) → length (bytes_high_first k n) ≡ k
length-bytes_high_first zero n = refl
length-bytes_high_first (suc k) n = ap suc (length-bytes_high_first k n)

hex_bytes-hex_number : (k n : ℕ) → hex_bytes k (hex_number k n) ≡ Some (bytes_high_first k n)
hex_bytes-hex_number k n = hex_bytes-encode_lower (bytes_high_first k n) k (length-bytes_high_first k n) (IsBytes-bytes_high_first k n)

-- the text of an EUI is read back
pub eui-read : (n : ℕ) → n < 2 ^ 64 → option_map (from_be_bytes w64) (hex_bytes 8 (hex_number 8 n)) ≡ Some n
eui-read n fits = ap (option_map (from_be_bytes w64)) (hex_bytes-hex_number 8 n) ∙ ap Some (from_be_bytes-to_be_bytes_8 n fits)

-- the text of a NetID of type 0 is read back
pub net_id-read : (n : ℕ) → n ≤ max_net_id → option_map (λ bytes. from_be_bytes w32 (0 ∷ bytes)) (hex_bytes 3 (hex_number 3 n)) ≡ Some n
net_id-read n small =
    let top : 0 ≡ byte_at 3 n = omega arith in
    ap (option_map (λ (bytes : List ℕ). from_be_bytes w32 (0 ∷ bytes))) (hex_bytes-hex_number 3 n)
    ∙ (ap (λ (b : ℕ). Some (from_be_bytes w32 (b ∷ bytes_high_first 3 n))) top
    ∙ ap Some (from_be_bytes-to_be_bytes_4 n (omega arith)))
