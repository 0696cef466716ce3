use Rattle.ns_restore.specs.Tables.{AreOfOneShard}
use Rattle.ns_restore.proofs.devices.ask_first.Given as goal

-- the shard stays one of its roster and its number
abbrev pub invariant-devices : goal.invariant-devices
invariant-devices l = AreOfOneShard l.maker.shard l.fn.maker.shard
