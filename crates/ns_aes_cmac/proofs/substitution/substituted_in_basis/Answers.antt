use Rattle.ns_aes_cmac.specs.declared.substitution.TheConstants.{ONCE_I, ONCE_J, TWICE_I, TWICE_J}
use Rattle.ns_aes_cmac.proofs.InBasis.{in_basis_is}
use Rattle.ns_aes_cmac.proofs.substitution.substituted_in_basis.Goals as goal

pub returns-clause-once : goal.returns-clause-once
returns-clause-once c = in_basis_is ONCE_I ONCE_J c.args.v c.inverted.ensures.i c.inverted.ensures.j c.joined-once.ensures

pub returns-clause-twice : goal.returns-clause-twice
returns-clause-twice c = in_basis_is TWICE_I TWICE_J c.args.v c.inverted.ensures.i c.inverted.ensures.j c.joined-twice.ensures
