use Rattle.ns_aes_cmac.proofs.InBasis.{round_key_is}
use Rattle.ns_aes_cmac.proofs.substitution.round_key.Goals as goal

pub returns : goal.returns
returns c = round_key_is c.args.key c.fits-key
