-- The definitions write the frames so, which the check computes.
use Rattle.std.proofs.Common.{refl}
use Rattle.ns_aes_cmac.specs.Aes.{product_of_bits, multiplicative_inverse, s_box, inverse_s_box, mix_columns_by, next_round_key, round_keys_by, rounds, inverse_rounds, aes, unaes, xor_bytes}
use Rattle.ns_aes_cmac.specs.Cmac.{shifted_left, last_block, chained, cmac}
use Rattle.ns_secure.specs.Cipher.{numbers}
use Rattle.ns_creator.specs.DataFrame.{data_frame}
use Rattle.ns_creator.specs.JoinFrame.{join_request_frame, join_accept_frame}
use Rattle.example_runs.specs.Frames.{DataFrames, Acknowledgements, JoinRequests, JoinAccepts}

pub data_frames : DataFrames
unfolding product_of_bits multiplicative_inverse s_box mix_columns_by next_round_key round_keys_by rounds aes xor_bytes shifted_left last_block chained cmac numbers data_frame
data_frames = refl

pub acknowledgements : Acknowledgements
unfolding product_of_bits multiplicative_inverse s_box mix_columns_by next_round_key round_keys_by rounds aes xor_bytes shifted_left last_block chained cmac numbers data_frame
acknowledgements = (refl, refl, refl)

pub join_requests : JoinRequests
unfolding product_of_bits multiplicative_inverse s_box mix_columns_by next_round_key round_keys_by rounds aes xor_bytes shifted_left last_block chained cmac join_request_frame
join_requests = refl

pub join_accepts : JoinAccepts
unfolding product_of_bits multiplicative_inverse s_box mix_columns_by next_round_key round_keys_by rounds aes xor_bytes shifted_left last_block chained cmac inverse_s_box inverse_rounds unaes numbers join_accept_frame
join_accepts = (refl, refl)
