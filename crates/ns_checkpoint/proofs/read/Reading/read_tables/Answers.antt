use Rattle.ns_checkpoint.proofs.ReadLines.{tables-read}
use Rattle.ns_checkpoint.proofs.read.Reading.read_tables.Goals as goal

pub returns : goal.returns
returns g c =
    tables-read _ _ _ _ _ _ _ _ _ (record { devices = c.in_ok-devices.devices; windows = c.in_ok-windows.windows })
    c.in_ok-read_shard.ensures c.in_ok-devices.ensures c.in_ok-windows.ensures
