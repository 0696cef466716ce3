-- JSON texts and the fields of their objects; null is None at each, as a missing field is.
use Rattle.std.specs.Prelude.{ℕ, List, ◌==◌, ◌&&◌, Bool, true, Option, None, is_some, option_and_then, if◌then◌else◌, drop, slice_index}
use Rattle.std.specs.Int.{bytes_high_first}
use Rattle.std.specs.Option.{option_map_or}
use Rattle.std.specs.Str.{is_utf8}
use Rattle.std.specs.Result.{result_ok}
use Rattle.hex.specs.Hex.{decode_sized, encode_lower}
use Rattle.serde_json.specs.Data.{Data, Items}
use Rattle.serde_json.specs.Find.{get, as_number, as_u64, as_null, as_str, as_array}
use Rattle.serde_json.specs.Read.{read}

-- the JSON value of the bytes: they are UTF-8 and nest no deeper than 127, and of equal keys in an object the last counts
abbrev pub value_of : List ℕ → Option Data
value_of bytes = if is_utf8 bytes then read bytes else None

-- whether nothing stands at a key: it is missing or null
abbrev pub is_missing : List ℕ → Data → Bool
is_missing key d = option_map_or (λ found. is_some (as_null found)) (get key d) true

-- the whole number from 0 to 2^64 - 1 at a key
abbrev pub whole_at : List ℕ → Data → Option ℕ
whole_at key d = option_and_then as_u64 (option_and_then as_number (get key d))

-- the text at a key
abbrev pub text_at : List ℕ → Data → Option (List ℕ)
text_at key d = option_and_then as_str (get key d)

-- the list at a key
abbrev pub list_at : List ℕ → Data → Option Items
list_at key d = option_and_then as_array (get key d)

-- the text without a 0x before it (`0` is 48, `x` is 120)
abbrev pub without_0x : List ℕ → List ℕ
without_0x text = if (slice_index text 0 == 48) && (slice_index text 1 == 120) then drop 2 text else text

-- the n bytes that a text of 2 n hex digits spells, in either case, with or without 0x before them
abbrev pub hex_bytes : ℕ → List ℕ → Option (List ℕ)
hex_bytes n text = result_ok (decode_sized (without_0x text) n)

-- a number of n bytes in hex, the highest byte first
abbrev pub hex_number : ℕ → ℕ → List ℕ
hex_number n x = encode_lower (bytes_high_first n x)
