use Rattle.ns_aes_cmac.proofs.Lanes.{swizzle_ok, swizzle_is}
use Rattle.ns_steps.proofs.hex_digits.look.Goals as goal

pub swizzle : goal.swizzle
swizzle c = swizzle_ok c.args.places c.fits-places.0 c.requires

pub returns : goal.returns
returns c = swizzle_is c.args.table c.args.places c.fits-places.0
