use Rattle.std.proofs.Common.{length}
use Rattle.ns_compact.specs.Compact.{AllTellTheSame}
use Rattle.ns_compact.proofs.same.have_same_tables.Given as goal

-- where those that are left have the same tables, all do
abbrev pub invariant-shards : goal.invariant-shards
invariant-shards l = AllTellTheSame l.left l.right → AllTellTheSame l.old l.new

abbrev pub decreases-shards : goal.decreases-shards
decreases-shards l = length l.left
