use Rattle.std.proofs.Common.{◌≡◌, ◌<◌, [], ◌∷◌, ◌++◌, length, get_or, None, ap, sym, ◌∙◌}
use Rattle.std.proofs.lemmas.List.{map_more}
use Rattle.indexmap.proofs.CallerLemmas.{insert_entry-new}
use Rattle.ns_roster.specs.declared.Device.{Device}
use Rattle.ns_calls.specs.Entries.{same_device}
use Rattle.ns_status.specs.Devices.{not_joined, row_of}
use Rattle.ns_status.proofs.Places.{none-before}
use Rattle.ns_status.proofs.devices.Devices.new.Goals as goal

abbrev nobody : Device
nobody = record { eui = record { 0 = 0 }; join_eui = record { 0 = 0 }; slot = 0; last_nonce = None }

pub loop-device-preserved : goal.loop-device-preserved
loop-device-preserved c =
    let devices = c.args.roster.now.devices in
    let place = c.loop-device.device-index in
    let within : place < length devices = rw c.devices-device-items.ensures.are at c.loop-device-test.true in
    let row = not_joined (get_or devices place nobody) in
    let eui = (get_or devices place nobody).eui in
    let none : row_of c.loop-device.rows.entries eui ≡ None = ap (λ rows. row_of rows eui) c.loop-device.invariant ∙ none-before devices place nobody within c.devices-device-items.ensures.valid.devices.distinct in
    let pushed = rw c.devices-device-items.ensures.are at c.in_ok-insert.ensures.entries ∙ insert_entry-new same_device c.loop-device.rows eui None none in
    pushed ∙ ap (λ rows. rows ++ row ∷ []) c.loop-device.invariant ∙ sym (map_more not_joined devices place nobody within)
