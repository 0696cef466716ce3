-- The definitions give the run, which the check computes.
use Rattle.std.proofs.Common.{refl}
use Rattle.ns_aes_cmac.specs.Aes.{product_of_bits, multiplicative_inverse, s_box, mix_columns_by, next_round_key, round_keys_by, rounds, aes, xor_bytes}
use Rattle.ns_aes_cmac.specs.Cmac.{shifted_left, last_block, chained, cmac}
use Rattle.ns_secure.specs.Cipher.{numbers}
use Rattle.example_runs.specs.SharedAddress.{SharedAddress}

pub shared_address : SharedAddress
unfolding product_of_bits multiplicative_inverse s_box mix_columns_by next_round_key round_keys_by rounds aes xor_bytes shifted_left last_block chained cmac numbers
shared_address = refl
