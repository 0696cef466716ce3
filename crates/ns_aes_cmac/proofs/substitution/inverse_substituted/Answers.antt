use Rattle.ns_aes_cmac.proofs.substitution.inverse_substituted.Goals as goal
use Rattle.ns_aes_cmac.proofs.Back.{inverse_substituted}

pub returns : goal.returns
returns c = inverse_substituted c.args.v c.fits-v c.by_halves.ensures c.inverted.ensures.i c.inverted.ensures.j c.joined.ensures
