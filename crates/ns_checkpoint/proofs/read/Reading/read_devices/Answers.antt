use Rattle.ns_checkpoint.specs.Text.{device_lines}
use Rattle.ns_checkpoint.proofs.ReadLines.{read-element}
use Rattle.ns_checkpoint.proofs.read.Reading.read_devices.Goals as goal

pub devices-preserved : goal.devices-preserved
devices-preserved g c = read-element device_lines _ _ _ _ _ _ _ _ _ _ c.devices.invariant c.in_ok-begins_with.ensures c.in_ok-device.ensures c.in_ok-append.ensures
