use Rattle.std.proofs.Common.{◌≡◌, [], map, drop, length}
use Rattle.ns_roster.specs.Valid.{AreDevices}
use Rattle.serde_json.specs.View.{view}
use Rattle.ns_roster.specs.Held.{Indexes}
use Rattle.ns_roster.specs.Text.{devices_from}
use Rattle.ns_roster.proofs.reading.read_devices.Given as goal

abbrev pub invariant-loop-value : goal.invariant-loop-value
invariant-loop-value l = (devices_from l.version l.devices.items (drop l.value-index (map view l.values)) ≡ devices_from l.version [] (map view l.values)) × Indexes l.by_eui l.devices.items × AreDevices l.devices.items × (length l.devices.items ≡ l.value-index)
