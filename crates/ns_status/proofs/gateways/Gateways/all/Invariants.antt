use Rattle.std.proofs.Common.{◌≡◌, ◌++◌, map}
use Rattle.ns_status.specs.Gateways.{with_id}
use Rattle.ns_status.proofs.gateways.Gateways.all.Given as goal

-- what was put so far with what is left is the whole
abbrev pub invariant-loop-number : goal.invariant-loop-number
invariant-loop-number l = l.all.items ++ map with_id l.number-iterator ≡ map with_id l.self.list.entries
