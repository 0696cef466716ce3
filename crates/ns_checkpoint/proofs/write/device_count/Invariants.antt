use Rattle.std.proofs.Common.{◌≡◌, length, flat_map, take}
use Rattle.ns_checkpoint.specs.Text.{device_lines}
use Rattle.ns_checkpoint.proofs.write.device_count.Given as goal

-- the lines of those so far
abbrev pub invariant-loop-device : goal.invariant-loop-device
invariant-loop-device l = l.lines ≡ length (flat_map device_lines (take l.device-index l.devices))
