use Rattle.std.proofs.Common.{bit_and, bit_or, ◌+◌, ◌%◌, refl}
use Rattle.std.proofs.lemmas.Simd.{zip2_of_maps}
use Rattle.ns_aes_cmac.specs.Lookups.{look_at, low_half, high_half}
use Rattle.ns_aes_cmac.proofs.Lanes.{looked, places_of}
use Rattle.ns_steps.specs.declared.hex_digits.TheConstants.{ADDENDS, FAULTS_HIGH, FAULTS_LOW}
use Rattle.ns_steps.proofs.hex_digits.values.Goals as goal

pub look-requires : goal.look-requires
look-requires c = places_of high_half c.args.text c.fits-text.1 c.high_halves-high.ensures refl

pub look-requires-2 : goal.look-requires-2
look-requires-2 c = places_of high_half c.args.text c.fits-text.1 c.high_halves-high.ensures refl

pub look-requires-3 : goal.look-requires-3
look-requires-3 c = places_of low_half c.args.text c.fits-text.1 c.low_halves-low.ensures refl

pub returns : goal.returns
returns c =
    let text = c.args.text in
    let added = looked ADDENDS high_half text c.look.ensures c.high_halves-high.ensures in
    let by_high = looked FAULTS_HIGH high_half text c.look-2.ensures c.high_halves-high.ensures in
    let by_low = looked FAULTS_LOW low_half text c.look-3.ensures c.low_halves-low.ensures in
    zip2_of_maps bit_or (λ b. (low_half b + look_at ADDENDS (high_half b)) % 256) (λ b. bit_and (look_at FAULTS_HIGH (high_half b)) (look_at FAULTS_LOW (low_half b))) text
    (zip2_of_maps (λ a b. (a + b) % 256) low_half (λ b. look_at ADDENDS (high_half b)) text c.low_halves-low.ensures added)
    (zip2_of_maps bit_and (λ b. look_at FAULTS_HIGH (high_half b)) (λ b. look_at FAULTS_LOW (low_half b)) text by_high by_low)
