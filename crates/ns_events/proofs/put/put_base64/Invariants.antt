use Rattle.std.proofs.Common.{◌≡◌, ◌≤◌, ◌+◌, ◌*◌, ◌++◌, length, drop}
use Rattle.ns_events.specs.Base64.{base64_text}
use Rattle.ns_events.proofs.put.put_base64.Given as goal

abbrev pub invariant-loop-i : goal.invariant-loop-i
invariant-loop-i l = (l.initial.text.bytes ++ base64_text l.bytes ≡ l.text.bytes ++ base64_text (drop (3 * l.i) l.bytes)) × (length l.text.bytes ≤ length l.initial.text.bytes + 4 * l.i)
