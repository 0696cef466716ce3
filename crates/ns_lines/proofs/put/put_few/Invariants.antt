use Rattle.std.proofs.Common.{◌≡◌, ◌+◌, ◌*◌, ◌++◌, length, take}
use Rattle.hex.specs.Hex.{encode_lower}
use Rattle.ns_lines.proofs.put.put_few.Given as goal

abbrev pub invariant-loop-byte : goal.invariant-loop-byte
invariant-loop-byte l = (l.line.bytes ≡ l.initial.line.bytes ++ encode_lower (take l.byte-index l.bytes)) × (length l.line.bytes ≡ length l.initial.line.bytes + 2 * l.byte-index)
