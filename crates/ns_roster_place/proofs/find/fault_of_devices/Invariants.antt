use Rattle.std.proofs.Common.{◌≡◌, [], ◌+◌, map, drop}
use Rattle.serde_json.specs.View.{view}
use Rattle.ns_roster.specs.Held.{Indexes}
use Rattle.ns_roster.specs.Valid.{AreDevices}
use Rattle.ns_roster_place.specs.Place.{fault_from}
use Rattle.ns_roster_place.proofs.find.fault_of_devices.Given as goal

abbrev pub invariant-loop-index : goal.invariant-loop-index
invariant-loop-index l = (fault_from l.version l.devices.items (l.index + 1) (drop l.index (map view l.values)) ≡ fault_from l.version [] 1 (map view l.values)) × Indexes l.by_eui l.devices.items × AreDevices l.devices.items
