use Rattle.ns_aes_cmac.proofs.Inverse.{inverse_law}
use Rattle.ns_aes_cmac.proofs.laws.inverse_law.Goals as goal

pub returns : goal.returns
returns c = inverse_law
