use Rattle.ns_aes_cmac.proofs.Undo.{deciphered, enciphered}
use Rattle.ns_aes_cmac.proofs.laws.ciphers_undo_each_other.Goals as goal

pub returns : goal.returns
returns c = record { deciphered = deciphered; enciphered = enciphered }
