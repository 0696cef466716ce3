use Rattle.ns_aes_cmac.proofs.InBasis.{from_basis_map}
use Rattle.ns_aes_cmac.proofs.substitution.from_basis.Goals as goal

pub returns : goal.returns
returns c = from_basis_map c.args.v c.by_halves.result c.by_halves.ensures
