use Rattle.std.proofs.Common.{arith}
use Rattle.ns_aes_cmac.specs.Aes.{aes, unaes}
use Rattle.ns_aes_cmac.specs.Cmac.{block}
use Rattle.ns_secure.proofs.Sizes.{length-aes, length-unaes}
use Rattle.ns_secure.proofs.Undone.{undone, block_is}
use Rattle.ns_secure.proofs.laws.accept_law.Goals as goal

pub returns-clause-deciphered : goal.returns-clause-deciphered
returns-clause-deciphered c key plain k h =
    undone (aes key) (unaes key) plain h.1
    (λ i low high. length-unaes key (block plain i) k.0 (block_is plain h i (omega arith)).0)
    (λ i low high. c.ciphers_undo_each_other.ensures.enciphered key (block plain i) k (block_is plain h i (omega arith)))

pub returns-clause-enciphered : goal.returns-clause-enciphered
returns-clause-enciphered c key enciphered k h =
    undone (unaes key) (aes key) enciphered h.1
    (λ i low high. length-aes key (block enciphered i) k.0 (block_is enciphered h i (omega arith)).0)
    (λ i low high. c.ciphers_undo_each_other.ensures.deciphered key (block enciphered i) k (block_is enciphered h i (omega arith)))
