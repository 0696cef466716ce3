use Rattle.ns_checkpoint.proofs.WrittenLines.{device-written}
use Rattle.ns_checkpoint.proofs.write.CheckpointWriter.put_device.Goals as goal

pub returns : goal.returns
returns g c = device-written _ _ _ _ _ _ _ c.args.device.now _ c.device_line.ensures c.as_slice.ensures.value c.in_ok-put.ensures c.in_ok-put_tickets.ensures
