use Rattle.ns_aes_cmac.proofs.round.inverse_mixed.Goals as goal
use Rattle.ns_aes_cmac.proofs.Back.{mixed_is}

pub returns : goal.returns
returns c = mixed_is c.args.v c.by_halves-a.result c.by_halves-b.result c.by_halves-c.result c.by_halves-d.result c.fits-v c.by_halves-a.ensures c.by_halves-b.ensures c.by_halves-c.ensures c.by_halves-d.ensures
