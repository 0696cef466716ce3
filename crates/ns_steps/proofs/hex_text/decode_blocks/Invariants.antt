use Rattle.std.proofs.Common.{◌*◌, ◌/◌, length, min}
use Rattle.ns_steps.proofs.HexDigits.{AreBytes}
use Rattle.ns_steps.proofs.hex_text.decode_blocks.Given as goal

-- the first bytes are those of the first digits
abbrev pub invariant-sixteens : goal.invariant-sixteens
invariant-sixteens l = AreBytes l.text l.out (min (16 * l.i) (length l.text / 2))
