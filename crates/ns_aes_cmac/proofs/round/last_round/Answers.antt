use Rattle.std.proofs.Common.{map, ◌∙◌}
use Rattle.std.proofs.lemmas.List.{length-map}
use Rattle.ns_aes_cmac.specs.Basis.{from_basis}
use Rattle.ns_aes_cmac.proofs.Mix.{last_is}
use Rattle.ns_aes_cmac.proofs.round.last_round.Goals as goal

pub returns : goal.returns
returns c = last_is c.args.key (map from_basis c.args.v) c.substituted_from_basis.result (length-map c.args.v from_basis ∙ c.fits-v.0) c.substituted_from_basis.ensures
