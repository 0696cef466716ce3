use Rattle.std.proofs.Common.{ap, ◌∙◌}
use Rattle.ns_aes_cmac.specs.Aes.{inverse_mix_columns, xor_bytes, inverse_sub_bytes, inverse_shift_rows}
use Rattle.ns_aes_cmac.proofs.round.inverse_round.Goals as goal

pub returns : goal.returns
returns c = c.inverse_mixed.ensures ∙ ap inverse_mix_columns (c.last_inverse_round.ensures ∙ ap (λ k. xor_bytes k (inverse_sub_bytes (inverse_shift_rows c.args.v))) c.key_from_basis.ensures)
