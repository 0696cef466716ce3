use Rattle.ns_restore.specs.Tables.{AreOfOneShard}
use Rattle.ns_restore.proofs.windows.open_windows.Given as goal

-- the shard stays one of its roster and its number
abbrev pub invariant-windows : goal.invariant-windows
invariant-windows l = AreOfOneShard l.maker.shard l.fn.maker.shard
