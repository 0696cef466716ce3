-- Hex digits as a table has them.
use Rattle.std.specs.Prelude.{ℕ, unwrap_or}
use Rattle.hex.specs.Hex.{hex_digit_value}

-- the value of a hex digit, in either case, or 16 where the byte is none
abbrev pub digit_or_16 : ℕ → ℕ
digit_or_16 byte = unwrap_or (hex_digit_value byte) 16
