use Rattle.ns_restore.specs.Tables.{AreOfOneShard}
use Rattle.ns_restore.proofs.windows.hear_copies.Given as goal

-- the shard stays one of its roster and its number
abbrev pub invariant-copies : goal.invariant-copies
invariant-copies l = AreOfOneShard l.maker.shard l.fn.maker.shard
