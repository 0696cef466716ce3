use Rattle.ns_aes_cmac.proofs.Lanes.{swizzle_ok, swizzle_is}
use Rattle.hex.specs.Hex.{lower_digits}
use Rattle.ns_lines.proofs.digits.characters.Goals as goal

pub swizzle : goal.swizzle
swizzle c = swizzle_ok c.args.digits c.fits-digits.0 c.requires

pub returns : goal.returns
returns c = swizzle_is lower_digits c.args.digits c.fits-digits.0
