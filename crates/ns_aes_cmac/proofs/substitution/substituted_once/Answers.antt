use Rattle.ns_aes_cmac.specs.declared.substitution.TheConstants.{ONCE_I, ONCE_J}
use Rattle.ns_aes_cmac.proofs.InBasis.{in_basis_is}
use Rattle.ns_aes_cmac.proofs.substitution.substituted_once.Goals as goal

pub returns : goal.returns
returns c = in_basis_is ONCE_I ONCE_J c.args.v c.inverted.ensures.i c.inverted.ensures.j c.joined.ensures
