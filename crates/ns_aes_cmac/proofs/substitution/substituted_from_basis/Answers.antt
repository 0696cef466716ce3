use Rattle.ns_aes_cmac.proofs.InBasis.{from_basis_is}
use Rattle.ns_aes_cmac.proofs.substitution.substituted_from_basis.Goals as goal

pub returns : goal.returns
returns c = from_basis_is c.args.v c.fits-v c.inverted.ensures.i c.inverted.ensures.j c.joined.ensures
