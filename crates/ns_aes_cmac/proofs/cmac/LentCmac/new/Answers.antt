use Rattle.ns_aes_cmac.proofs.Pieces.{empty}
use Rattle.ns_aes_cmac.proofs.cmac.LentCmac.new.Goals as goal

pub returns : goal.returns
returns c = empty c.args.cipher.now
