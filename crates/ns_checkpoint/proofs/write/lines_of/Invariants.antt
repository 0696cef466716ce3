use Rattle.std.proofs.Common.{◌≡◌, length, take}
use Rattle.ns_checkpoint.specs.Text.{shards_lines}
use Rattle.ns_checkpoint.proofs.write.lines_of.Given as goal

-- the lines of the shards so far
abbrev pub invariant-loop-tables : goal.invariant-loop-tables
invariant-loop-tables l = l.lines ≡ length (shards_lines 0 (take l.tables-index l.shards))
