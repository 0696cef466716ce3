use Rattle.ns_aes_cmac.proofs.round.last_inverse_round.Goals as goal
use Rattle.ns_aes_cmac.proofs.Back.{last_is}

pub returns : goal.returns
returns c = last_is c.args.key c.args.v c.inverse_substituted.result c.fits-v.0 c.inverse_substituted.ensures
