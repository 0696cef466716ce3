use Rattle.std.proofs.Common.{bit_xor, refl}
use Rattle.std.proofs.lemmas.Simd.{zip2_of_maps}
use Rattle.ns_aes_cmac.specs.Lookups.{look_at, inverses, inverses_times_a, low_half, high_half, both_halves, place_i, place_j, half_i, half_j}
use Rattle.ns_aes_cmac.proofs.Lanes.{looked, looked_both, places_of}
use Rattle.ns_aes_cmac.proofs.substitution.inverted.Goals as goal

pub look-a-requires : goal.look-a-requires
look-a-requires c = places_of low_half c.args.v c.fits-v.1 c.low-k.ensures refl

pub look-requires : goal.look-requires
look-requires c = places_of high_half c.args.v c.fits-v.1 c.high-i.ensures refl

pub look-requires-2 : goal.look-requires-2
look-requires-2 c = places_of both_halves c.args.v c.fits-v.1 (zip2_of_maps bit_xor high_half low_half c.args.v c.high-i.ensures c.low-k.ensures) refl

pub look-requires-3 : goal.look-requires-3
look-requires-3 c =
    let place = looked_both inverses inverses_times_a high_half low_half c.args.v c.high-i.ensures c.look.ensures c.low-k.ensures c.look-a.ensures in
    places_of place_i c.args.v c.fits-v.1 place refl

pub look-requires-4 : goal.look-requires-4
look-requires-4 c =
    let v = c.args.v in
    let both = zip2_of_maps bit_xor high_half low_half v c.high-i.ensures c.low-k.ensures in
    let place = looked_both inverses inverses_times_a both_halves low_half v both c.look-2.ensures c.low-k.ensures c.look-a.ensures in
    places_of place_j v c.fits-v.1 place refl

pub returns-clause-i : goal.returns-clause-i
unfolding half_i
returns-clause-i c =
    let v = c.args.v in
    let both = zip2_of_maps bit_xor high_half low_half v c.high-i.ensures c.low-k.ensures in
    let place = looked_both inverses inverses_times_a high_half low_half v c.high-i.ensures c.look.ensures c.low-k.ensures c.look-a.ensures in
    zip2_of_maps bit_xor (λ b. look_at inverses (place_i b)) both_halves v (looked inverses place_i v c.look-3.ensures place) both

pub returns-clause-j : goal.returns-clause-j
unfolding half_j
returns-clause-j c =
    let v = c.args.v in
    let both = zip2_of_maps bit_xor high_half low_half v c.high-i.ensures c.low-k.ensures in
    let place = looked_both inverses inverses_times_a both_halves low_half v both c.look-2.ensures c.low-k.ensures c.look-a.ensures in
    zip2_of_maps bit_xor (λ b. look_at inverses (place_j b)) high_half v (looked inverses place_j v c.look-4.ensures place) c.high-i.ensures

pub returns-clause-places_i : goal.returns-clause-places_i
unfolding half_i
returns-clause-places_i c = places_of half_i c.args.v c.fits-v.1 (returns-clause-i c) refl

pub returns-clause-places_j : goal.returns-clause-places_j
unfolding half_j
returns-clause-places_j c = places_of half_j c.args.v c.fits-v.1 (returns-clause-j c) refl
