use Rattle.ns_restore.specs.Tables.{AreOfOneShard}
use Rattle.ns_restore.proofs.maker.Maker.repeat.Given as goal

-- the shard stays one of its roster and its number
abbrev pub invariant-rounds : goal.invariant-rounds
invariant-rounds l = AreOfOneShard l.self.shard l.fn.self.shard
