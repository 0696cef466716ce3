use Rattle.ns_aes_cmac.proofs.Doubling.{doubled_is}
use Rattle.ns_aes_cmac.proofs.cmac.doubled.Goals as goal

pub returns : goal.returns
returns c = doubled_is c.args.block c.index.result.now c.fits-block c.index.ensures
