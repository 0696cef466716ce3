use Rattle.std.proofs.Common.{[], ◌∷◌}
use Rattle.hex.specs.Hex.{encode_with, lower_digits}
use Rattle.hex.proofs.HexLemmas.{IsAscii-encode_with}
use Rattle.ns_lines.proofs.HexDigits.{ascii_digits}
use Rattle.ns_lines.proofs.digits.digits_of_byte.Goals as goal

pub returns-clause-ascii : goal.returns-clause-ascii
unfolding encode_with
returns-clause-ascii c = IsAscii-encode_with lower_digits (c.args.byte ∷ []) ascii_digits
