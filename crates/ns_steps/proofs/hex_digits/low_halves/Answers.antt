use Rattle.std.proofs.Common.{bit_and}
use Rattle.std.proofs.lemmas.Simd.{zip2_splat}
use Rattle.ns_steps.proofs.hex_digits.low_halves.Goals as goal

pub returns : goal.returns
returns c = zip2_splat bit_and c.args.text 16 15 c.fits-text.0
