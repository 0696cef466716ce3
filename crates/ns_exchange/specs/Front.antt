-- The front of a ResultCode.
use Rattle.std.specs.Prelude.{ℕ, ◌-◌, List, ◌++◌, length, take, min, replicate, nat_le, if◌then◌else◌}
use Rattle.std.specs.Fmt.Cut.{floor_char_boundary}
use Rattle.ns_exchange.specs.declared.answer.ResultCode.{ResultCode}

-- the first 32 bytes of a text, cut at a character
abbrev pub first_32 : List ℕ → List ℕ
first_32 text = if nat_le (length text) 32 then text else take (floor_char_boundary text 32) text

-- the front of a text as it is kept: its length, and its bytes with zeros behind them
abbrev pub code_of : List ℕ → ResultCode
code_of text = record { len = length (first_32 text); room = first_32 text ++ replicate (32 - length (first_32 text)) 0 }

-- the bytes that are kept
abbrev pub code_bytes : ResultCode → List ℕ
code_bytes code = take (min code.len 32) code.room
