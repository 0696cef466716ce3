use Rattle.std.proofs.Common.{bit_and}
use Rattle.std.proofs.lemmas.Simd.{zip2_splat}
use Rattle.ns_aes_cmac.proofs.substitution.low.Goals as goal

pub returns : goal.returns
returns c = zip2_splat bit_and c.args.v 16 15 c.fits-v.0
