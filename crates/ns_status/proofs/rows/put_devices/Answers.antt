use Rattle.std.proofs.Common.{◌+◌, ◌++◌, ℕ, List, Option, None, drop, map, false, string_bytes, ap, ◌∙◌}
use Rattle.serde_json.specs.Data.{Data}
use Rattle.ns_types.specs.declared.identity.DevEui.{DevEui}
use Rattle.ns_status.specs.declared.devices.Device.{Device}
use Rattle.ns_status.specs.Rows.{row_text, rows_text, device_row}
use Rattle.ns_status.proofs.StepLemmas.{rows_more}
use Rattle.ns_status.proofs.rows.put_devices.Goals as goal

abbrev nobody : DevEui × Option Device
nobody = (record { 0 = 0 }, None)

pub loop-row-preserved : goal.loop-row-preserved
loop-row-preserved c =
    ap (λ (t : List ℕ). t ++ rows_text false (map device_row (drop (c.loop-row.row-index + 1) c.args.devices.now)))
    (c.in_ok-put_row.ensures ∙ ap (λ (d : Data). string_bytes c.loop-row.text ++ row_text c.loop-row.is_first d) c.in_ok-device_value.ensures)
    ∙ (rows_more device_row (string_bytes c.loop-row.text) c.loop-row.is_first c.args.devices.now c.loop-row.row-index nobody c.loop-row-test.true
    ∙ c.loop-row.invariant)
