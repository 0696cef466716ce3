use Rattle.ns_aes_cmac.proofs.InBasis.{round_is}
use Rattle.ns_aes_cmac.proofs.round.round.Goals as goal

pub returns : goal.returns
returns c = round_is c.args.v c.args.key c.substituted_in_basis.result.0 c.substituted_in_basis.result.1 c.fits-v c.fits-key c.substituted_in_basis.ensures.once c.substituted_in_basis.ensures.twice
