use Rattle.std.proofs.Common.{◌*◌}
use Rattle.ns_secure.proofs.KeyStream.{IsEnciphered}
use Rattle.ns_secure.proofs.cipher.cipher_in_place.Given as goal

abbrev pub invariant-loop-pair : goal.invariant-loop-pair
invariant-loop-pair l = IsEnciphered l.aes l.blocks.dir l.blocks.addr.0 l.blocks.counter l.initial.payload l.payload (2 * l.pair)
