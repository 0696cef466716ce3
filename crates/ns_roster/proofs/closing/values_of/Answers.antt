use Rattle.std.proofs.Common.{refl}
use Rattle.ns_roster.proofs.ClosingLemmas.{AreValues-next, AreValues-all}
use Rattle.ns_roster.proofs.closing.values_of.Goals as goal

pub loop-place-init : goal.loop-place-init
loop-place-init c = rw c.in_ok-values.ensures.items (record { values = refl; spell = tt })

pub loop-place-preserved : goal.loop-place-preserved
loop-place-preserved c =
    rw c.in_ok-push.ensures.items
    (AreValues-next c.args.devices.now c.args.nonces.now c.loop-place.place _ _ c.loop-place.values.items c.in_ok-device_value.field-0 c.requires c.loop-place-test.true c.loop-place.invariant
    c.in_ok-device_value.ensures.value c.in_ok-device_value.ensures.spells)

pub returns : goal.returns
returns c =
    let all = AreValues-all c.args.devices.now c.args.nonces.now c.loop-place.place c.loop-place.values.items c.requires c.loop-place-test.false c.loop-place.invariant in
    record { values = all.values; spell = all.spell }
