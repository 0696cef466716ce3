use Rattle.std.proofs.Common.{◌≡◌, ◌+◌, ◌*◌, ◌++◌, length, take}
use Rattle.hex.specs.Hex.{encode_lower}
use Rattle.ns_events.proofs.put.put_hex.Given as goal

abbrev pub invariant-loop-byte : goal.invariant-loop-byte
invariant-loop-byte l = (l.text.bytes ≡ l.initial.text.bytes ++ encode_lower (take l.byte-index l.bytes)) × (length l.text.bytes ≡ length l.initial.text.bytes + 2 * l.byte-index)
