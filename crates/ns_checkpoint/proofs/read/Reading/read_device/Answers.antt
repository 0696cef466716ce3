use Rattle.ns_checkpoint.proofs.ReadLines.{device-read}
use Rattle.ns_checkpoint.proofs.read.Reading.read_device.Goals as goal

pub returns : goal.returns
returns g c = device-read _ _ _ _ _ _ c.in_ok-device.device c.in_ok-device-2.field-0 c.in_ok-device.ensures c.in_ok-device-2.ensures
