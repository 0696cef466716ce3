use Rattle.ns_aes_cmac.specs.Aes.{unaes}
use Rattle.ns_secure.proofs.Blocks.{IsChanged}
use Rattle.ns_secure.proofs.join.accept_cipher_in_place.Given as goal

abbrev pub invariant-loop-i : goal.invariant-loop-i
invariant-loop-i l = IsChanged (unaes l.aes) l.initial.plain l.plain l.i
