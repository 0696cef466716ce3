use Rattle.ns_restore.specs.Tables.{AreOfOneShard}
use Rattle.ns_restore.proofs.uplinks.climb.Given as goal

-- the shard stays one of its roster and its number
abbrev pub invariant-steps : goal.invariant-steps
invariant-steps l = AreOfOneShard l.maker.shard l.fn.maker.shard
