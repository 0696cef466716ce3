use Rattle.ns_aes_cmac.proofs.NextKey.{next_is}
use Rattle.ns_aes_cmac.proofs.key_schedule.next_key.Goals as goal

pub returns : goal.returns
returns c = next_is c.args.rcon c.args.key c.substituted_once-word.result c.ranges.rcon.fits c.fits-key c.substituted_once-word.ensures
