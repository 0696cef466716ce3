use Rattle.std.proofs.Common.{◌≡◌}
use Rattle.std.specs.Arc.{arc_value}
use Rattle.ns_server.specs.Rows.{new_states}
use Rattle.ns_server.proofs.server.new_shards.Given as goal

abbrev pub invariant-loop-index : goal.invariant-loop-index
invariant-loop-index l = l.shards.items ≡ new_states (arc_value l.roster) l.index
