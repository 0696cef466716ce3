use Rattle.ns_types.proofs.ByteLemmas.{AreBytes-slice}
use Rattle.ns_device.proofs.join_server.key_bytes.Goals as goal

pub returns-clause-block : goal.returns-clause-block
returns-clause-block c = (c.told-key, AreBytes-slice c.args.key.now c.fits-key)
