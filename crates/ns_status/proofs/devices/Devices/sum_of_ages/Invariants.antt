use Rattle.std.proofs.Common.{◌≡◌, drop}
use Rattle.ns_status.specs.Devices.{ages_with}
use Rattle.ns_status.proofs.devices.Devices.sum_of_ages.Given as goal

-- what was counted with the devices that are left is the whole
abbrev pub invariant-loop-place : goal.invariant-loop-place
invariant-loop-place l = ages_with l.now_ms l.sum (drop l.place l.self) ≡ ages_with l.now_ms 0 l.self
