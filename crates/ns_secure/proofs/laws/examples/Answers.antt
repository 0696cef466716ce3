use Rattle.std.proofs.Common.{refl}
use Rattle.ns_aes_cmac.specs.Aes.{product_of_bits, multiplicative_inverse, s_box, mix_columns_by, next_round_key, round_keys_by, rounds, aes, xor_bytes}
use Rattle.ns_aes_cmac.specs.Cmac.{shifted_left, last_block, chained, cmac}
use Rattle.ns_secure.specs.Cipher.{numbers}
use Rattle.ns_secure.proofs.laws.examples.Goals as goal

-- the definitions give the examples, which the check computes
pub returns-clause-integrity : goal.returns-clause-integrity
unfolding product_of_bits multiplicative_inverse s_box mix_columns_by next_round_key round_keys_by rounds aes xor_bytes shifted_left last_block chained cmac
returns-clause-integrity c = refl

pub returns-clause-ciphers : goal.returns-clause-ciphers
unfolding product_of_bits multiplicative_inverse s_box mix_columns_by next_round_key round_keys_by rounds aes xor_bytes numbers
returns-clause-ciphers c = refl

pub returns-clause-session_keys : goal.returns-clause-session_keys
unfolding product_of_bits multiplicative_inverse s_box mix_columns_by next_round_key round_keys_by rounds aes xor_bytes
returns-clause-session_keys c = refl
