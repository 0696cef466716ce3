use Rattle.ns_restore.specs.Tables.{AreOfOneShard}
use Rattle.ns_restore.proofs.joins.join_to.Given as goal

-- the shard stays one of its roster and its number
abbrev pub invariant-joins : goal.invariant-joins
invariant-joins l = AreOfOneShard l.maker.shard l.fn.maker.shard
