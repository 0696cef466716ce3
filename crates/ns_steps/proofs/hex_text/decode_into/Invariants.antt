use Rattle.ns_steps.proofs.HexTextLemmas.{AreRead}
use Rattle.ns_steps.proofs.hex_text.decode_into.Given as goal

-- the bytes so far are those of the digits so far
abbrev pub invariant-bytes : goal.invariant-bytes
invariant-bytes l = AreRead l.text l.out l.i l.seen
