use Rattle.std.proofs.Common.{refl}
use Rattle.ns_aes_cmac.specs.Aes.{product_of_bits, multiplicative_inverse, s_box, inverse_s_box, mix_columns_by, next_round_key, round_keys_by, rounds, inverse_rounds, aes, unaes, xor_bytes}
use Rattle.ns_aes_cmac.specs.Cmac.{shifted_left, last_block, chained, cmac}
use Rattle.ns_aes_cmac.proofs.laws.known_answers.Goals as goal

-- the definitions give the standards' vectors, which the check computes
pub returns-clause-aes : goal.returns-clause-aes
unfolding product_of_bits multiplicative_inverse s_box inverse_s_box mix_columns_by next_round_key round_keys_by rounds inverse_rounds aes unaes xor_bytes
returns-clause-aes c = ((refl, refl), (refl, refl))

pub returns-clause-cmac : goal.returns-clause-cmac
unfolding product_of_bits multiplicative_inverse s_box mix_columns_by next_round_key round_keys_by rounds aes xor_bytes shifted_left last_block chained cmac
returns-clause-cmac c = (refl, refl, refl, refl)

pub returns-clause-key_expansion : goal.returns-clause-key_expansion
unfolding product_of_bits multiplicative_inverse s_box next_round_key round_keys_by xor_bytes
returns-clause-key_expansion c = refl
