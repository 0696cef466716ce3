-- The definitions give the run, which the check computes.
use Rattle.std.proofs.Common.{refl}
use Rattle.ns_aes_cmac.specs.Aes.{product_of_bits, multiplicative_inverse, s_box, mix_columns_by, next_round_key, round_keys_by, rounds, aes, xor_bytes}
use Rattle.ns_aes_cmac.specs.Cmac.{shifted_left, last_block, chained, cmac}
use Rattle.ns_secure.specs.Cipher.{numbers}
use Rattle.std.specs.Fmt.{digits}
use Rattle.hex.specs.Hex.{encode_with}
use Rattle.ns_lines.specs.Text.{reply_text, up_text, down_text, window_text, wide, address_text, bytes_text, gateways_text}
use Rattle.example_runs.specs.FirstJoin.{FirstJoin, FirstJoinLines}

pub first_join : FirstJoin
unfolding product_of_bits multiplicative_inverse s_box mix_columns_by next_round_key round_keys_by rounds aes xor_bytes shifted_left last_block chained cmac numbers
first_join = refl

pub first_join_lines : FirstJoinLines
unfolding digits encode_with reply_text up_text down_text window_text wide address_text bytes_text gateways_text
first_join_lines = refl
