use Rattle.std.proofs.Common.{◌≡◌}
use Rattle.ns_secure.proofs.Stream.{summed}
use Rattle.ns_secure.proofs.cipher.xor_block.Given as goal

abbrev pub invariant-loop-i : goal.invariant-loop-i
invariant-loop-i l = l.bytes ≡ summed l.i l.initial.bytes l.stream
