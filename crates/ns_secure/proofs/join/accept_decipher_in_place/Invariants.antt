use Rattle.ns_aes_cmac.specs.Aes.{aes}
use Rattle.ns_secure.proofs.Blocks.{IsChanged}
use Rattle.ns_secure.proofs.join.accept_decipher_in_place.Given as goal

abbrev pub invariant-loop-i : goal.invariant-loop-i
invariant-loop-i l = IsChanged (aes l.aes) l.initial.enciphered l.enciphered l.i
