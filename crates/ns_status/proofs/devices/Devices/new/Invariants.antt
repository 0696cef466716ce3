use Rattle.std.proofs.Common.{◌≡◌, map, take}
use Rattle.ns_status.specs.Devices.{not_joined}
use Rattle.ns_status.proofs.devices.Devices.new.Given as goal

-- the devices so far are in the map
abbrev pub invariant-loop-device : goal.invariant-loop-device
invariant-loop-device l = l.rows.entries ≡ map not_joined (take l.device-index l.roster.devices)
