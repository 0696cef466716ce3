use Rattle.ns_checkpoint.proofs.WrittenLines.{tables-written}
use Rattle.ns_checkpoint.proofs.write.CheckpointWriter.put_tables.Goals as goal

pub returns : goal.returns
returns g c =
    tables-written _ _ _ _ _ _ _ _ c.args.number c.args.tables.now _ _ _ c.shard_line.ensures c.as_slice.ensures.value c.as_slice-2.ensures.value
    c.in_ok-put.ensures c.in_ok-put_devices.ensures c.in_ok-put_windows.ensures
