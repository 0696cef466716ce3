use Rattle.std.proofs.Common.{◌≡◌, ◌+◌, ◌*◌, ◌++◌, length}
use Rattle.hex.specs.Hex.{encode_lower}
use Rattle.ns_lines.proofs.put.put_hex.Given as goal

-- with what is left to put, it is the whole
abbrev pub invariant-eights : goal.invariant-eights
invariant-eights l =
    (l.line.bytes ++ encode_lower l.rest ≡ l.initial.line.bytes ++ encode_lower l.bytes)
    × (length l.line.bytes + 2 * length l.rest ≡ length l.initial.line.bytes + 2 * length l.bytes)

abbrev pub decreases-eights : goal.decreases-eights
decreases-eights l = length l.rest
