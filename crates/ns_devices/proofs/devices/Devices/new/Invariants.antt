use Rattle.std.proofs.Common.{◌≡◌}
use Rattle.std.specs.Map.{values_of}
use Rattle.ns_devices.specs.Places.{Agree}
use Rattle.ns_devices.proofs.Rosters.{added}
use Rattle.ns_devices.proofs.devices.Devices.new.Given as goal

abbrev pub invariant-loop-device : goal.invariant-loop-device
invariant-loop-device l = (values_of l.list.entries ≡ added l.roster l.index l.device-index) × Agree l.list.entries l.places.entries
