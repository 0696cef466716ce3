use Rattle.std.proofs.Common.{◌≡◌, ◌≤◌, ◌+◌, ◌*◌, ◌++◌, length, take}
use Rattle.std.specs.Prelude.{codes, flat_map}
use Rattle.ns_events.specs.Uplink.{copy_text}
use Rattle.ns_events.proofs.event.put_more_copies.Given as goal

abbrev pub invariant-loop-copy : goal.invariant-loop-copy
invariant-loop-copy l = (l.text.bytes ≡ l.initial.text.bytes ++ flat_map (λ c. codes "," ++ copy_text c) (take l.copy-index l.copies)) × (length l.text.bytes ≤ length l.initial.text.bytes + 301 * l.copy-index)
