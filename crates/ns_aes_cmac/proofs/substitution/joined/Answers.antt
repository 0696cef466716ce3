use Rattle.std.proofs.Common.{bit_xor, ap₂}
use lib.Lanes.{zip2}
use Rattle.ns_aes_cmac.proofs.substitution.joined.Goals as goal

pub returns : goal.returns
returns c = ap₂ (zip2 bit_xor) c.look.ensures c.look-2.ensures
