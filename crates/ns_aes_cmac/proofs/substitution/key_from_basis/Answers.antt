use Rattle.ns_aes_cmac.proofs.InBasis.{key_from_basis_is}
use Rattle.ns_aes_cmac.proofs.substitution.key_from_basis.Goals as goal

pub returns : goal.returns
returns c = key_from_basis_is c.args.key c.by_halves.result c.fits-key c.by_halves.ensures
