use Rattle.std.proofs.Common.{◌≡◌, ◌<◌, ◌++◌, ◌∷◌, [], length, get_or, None, sym, ap, ◌∙◌}
use Rattle.std.specs.Map.{values_of}
use Rattle.indexmap.proofs.CallerLemmas.{insert_entry-new}
use Rattle.ns_roster.specs.declared.Device.{Device}
use Rattle.ns_calls.specs.Entries.{same_device}
use Rattle.ns_devices.specs.declared.own.Own.{Own}
use Rattle.ns_devices.specs.Devices.{joinless, own_of}
use Rattle.ns_devices.proofs.Euis.{lookup-eui, values-push, agree-push}
use Rattle.ns_devices.proofs.Rosters.{added, added-own, added-other, none-added}
use Rattle.ns_devices.proofs.devices.Devices.new.Goals as goal
use Rattle.ns_devices.proofs.devices.Devices.new.Goals.{In_ok-insert}

abbrev nobody : Device
nobody = record { eui = record { 0 = 0 }; join_eui = record { 0 = 0 }; slot = 0; last_nonce = None }

pub loop-device-preserved-then-shard_of-index : goal.loop-device-preserved-then-shard_of-index
loop-device-preserved-then-shard_of-index c =
    let within : c.loop-device.device-index < length c.args.roster.now.devices = rw c.devices-device-items.ensures.are at c.loop-device-test.true in
    let shard = rw c.devices-device-items.ensures.are at c.shard_of.ensures.is in
    (c.loop-device.invariant.0 ∙ sym (added-other c.args.roster.now c.args.index c.loop-device.device-index nobody within (λ own. c.if-shard_of-index.true (shard ∙ own))), c.loop-device.invariant.1)

within : (c : In_ok-insert) → c.loop-device.device-index < length c.args.roster.now.devices
within c = rw c.devices-device-items.ensures.are at c.loop-device-test.true

-- what is added is the device at the place of the roster, which has not joined
own : (c : In_ok-insert) → c.new-own.result ≡ joinless c.args.roster.now (get_or c.args.roster.now.devices c.loop-device.device-index nobody)
own c = rw c.devices-device-items.ensures.are at c.new-own.ensures

absent : (c : In_ok-insert) → own_of c.new-own.result.device.eui (values_of c.loop-device.list.entries) ≡ None
absent c =
    let net = c.args.roster.now in
    let place = c.loop-device.device-index in
    ap (λ (o : Own). own_of o.device.eui (values_of c.loop-device.list.entries)) (own c)
    ∙ ap (own_of (get_or net.devices place nobody).eui) c.loop-device.invariant.0
    ∙ none-added net c.args.index place nobody (within c) c.devices-device-items.ensures.valid.devices.distinct

-- it stands behind the others
entries : (c : In_ok-insert) → c.insert.new.self.entries ≡ c.loop-device.list.entries ++ (c.new-own.result.device.eui, c.new-own.result) ∷ []
entries c =
    let eui = c.new-own.result.device.eui in
    let none = lookup-eui eui c.loop-device.list.entries c.loop-device.invariant.1.euis ∙ absent c in
    c.in_ok-insert.ensures.entries ∙ insert_entry-new same_device c.loop-device.list eui c.new-own.result none

pub loop-device-preserved : goal.loop-device-preserved
loop-device-preserved c =
    let net = c.args.roster.now in
    let place = c.loop-device.device-index in
    let shard = sym (rw c.devices-device-items.ensures.are at c.shard_of.ensures.is) ∙ c.if-shard_of-index.false in
    let more = sym (added-own net c.args.index place nobody (within c) shard) in
    let pushed = ap values_of (entries c) ∙ values-push c.loop-device.list.entries c.new-own.result.device.eui c.new-own.result in (
      pushed ∙ ap (λ os. os ++ c.new-own.result ∷ []) c.loop-device.invariant.0 ∙ ap (λ o. added net c.args.index place ++ o ∷ []) (own c) ∙ more,
      rw (entries c)
          (agree-push c.loop-device.list.entries c.loop-device.places.entries c.push_at.new.rows.entries c.new-own.result c.loop-device.invariant.1 (rw (entries c) at c.insert.ensures.unique)
          (rw (c.from.ensures, c.len.ensures.len) at c.in_ok-push_at.ensures.ok)),
    )
