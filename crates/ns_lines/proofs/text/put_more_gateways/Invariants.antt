use Rattle.std.proofs.Common.{◌≡◌, ◌+◌, ◌*◌, ◌++◌, length, take}
use Rattle.std.specs.Prelude.{codes, flat_map}
use Rattle.ns_lines.specs.Text.{wide}
use Rattle.ns_lines.proofs.text.put_more_gateways.Given as goal

abbrev pub invariant-loop-copy : goal.invariant-loop-copy
invariant-loop-copy l = (l.line.bytes ≡ l.initial.line.bytes ++ flat_map (λ c. codes "," ++ wide c.gateway.0) (take l.copy-index l.copies)) × (length l.line.bytes ≡ length l.initial.line.bytes + 17 * l.copy-index)
