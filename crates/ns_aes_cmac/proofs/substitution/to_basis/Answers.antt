use Rattle.ns_aes_cmac.proofs.InBasis.{to_basis_is}
use Rattle.ns_aes_cmac.proofs.substitution.to_basis.Goals as goal

pub returns : goal.returns
returns c = to_basis_is c.args.v c.by_halves.result c.fits-v c.by_halves.ensures
