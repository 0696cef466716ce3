-- The definitions give the runs, which the check computes.
use Rattle.std.proofs.Common.{refl}
use Rattle.ns_aes_cmac.specs.Aes.{product_of_bits, multiplicative_inverse, s_box, mix_columns_by, next_round_key, round_keys_by, rounds, aes, xor_bytes}
use Rattle.ns_aes_cmac.specs.Cmac.{shifted_left, last_block, chained, cmac}
use Rattle.ns_secure.specs.Cipher.{numbers}
use Rattle.example_runs.specs.TrimmedRuns.{LongRun, OpenRun, AcknowledgedRun, RunSentAgain}

pub long_run : LongRun
unfolding product_of_bits multiplicative_inverse s_box mix_columns_by next_round_key round_keys_by rounds aes xor_bytes shifted_left last_block chained cmac numbers
long_run = record { numbers = refl; mark = refl; windows = refl; answers = refl }

pub open_run : OpenRun
unfolding product_of_bits multiplicative_inverse s_box mix_columns_by next_round_key round_keys_by rounds aes xor_bytes shifted_left last_block chained cmac numbers
open_run = record { numbers = refl; windows = refl; answers = refl }

pub acknowledged_run : AcknowledgedRun
unfolding product_of_bits multiplicative_inverse s_box mix_columns_by next_round_key round_keys_by rounds aes xor_bytes shifted_left last_block chained cmac numbers
acknowledged_run = record { numbers = refl; replies = refl }

pub run_sent_again : RunSentAgain
unfolding product_of_bits multiplicative_inverse s_box mix_columns_by next_round_key round_keys_by rounds aes xor_bytes shifted_left last_block chained cmac numbers
run_sent_again = record { numbers = refl; replies = refl }
