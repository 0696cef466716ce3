use Rattle.std.proofs.Common.{◌≡◌, length}
use Rattle.std.specs.Arc.{arc_value}
use Rattle.ns_resume.specs.Private.Restored.{AreRestored}
use Rattle.ns_resume.proofs.head.all_restored.Given as goal

-- the shards so far have the tables of their places
abbrev pub invariant-shards : goal.invariant-shards
invariant-shards l = record {
  many : length l.list.items ≡ l.index;
  are : AreRestored (arc_value l.roster) l.tables l.list.items;
}
