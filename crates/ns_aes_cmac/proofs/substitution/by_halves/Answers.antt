use Rattle.std.proofs.Common.{refl}
use Rattle.ns_aes_cmac.specs.Lookups.{low_half, high_half}
use Rattle.ns_aes_cmac.proofs.Lanes.{looked_both, places_of}
use Rattle.ns_aes_cmac.proofs.substitution.by_halves.Goals as goal

pub look-requires : goal.look-requires
look-requires c = places_of low_half c.args.v c.fits-v.1 c.low.ensures refl

pub look-requires-2 : goal.look-requires-2
look-requires-2 c = places_of high_half c.args.v c.fits-v.1 c.high.ensures refl

pub returns : goal.returns
returns c = looked_both c.args.low_table c.args.high_table low_half high_half c.args.v c.low.ensures c.look.ensures c.high.ensures c.look-2.ensures
