use Rattle.std.proofs.Common.{◌≡◌, length}
use Rattle.ns_checkpoint.specs.Text.{shards_lines}
use Rattle.ns_checkpoint.specs.Private.Reading.{HasRead}
use Rattle.ns_checkpoint.proofs.read.Reading.read_shards.Given as goal

-- the shards so far
abbrev pub invariant-shards : goal.invariant-shards
invariant-shards g l = HasRead (g.S.Read.remaining l.fn.source) (g.S.Read.remaining l.source) l.fn.self l.self (shards_lines 0 l.shards.items) × (length l.shards.items ≡ l.number)
