use Rattle.std.proofs.Common.{◌≡◌, ℕ, ◌<◌, length, slice_get, Some}
use Rattle.std.specs.Arc.{arc_value}
use Rattle.ns_shard.specs.State.{no_entries}
use Rattle.ns_runs.proofs.run.new_shards.Given as goal

abbrev pub invariant-shards : goal.invariant-shards
invariant-shards l = record {
  made : length l.list.items ≡ l.index;
  each : (k : ℕ) → k < l.index → slice_get l.list.items k ≡ Some (no_entries (arc_value l.roster) k);
}
