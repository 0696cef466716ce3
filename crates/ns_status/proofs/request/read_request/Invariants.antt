use Rattle.std.proofs.Common.{◌≡◌, ◌-◌, false, length}
use Rattle.std.specs.Io.KnownBytes.{Consumes}
use Rattle.ns_status.proofs.request.read_request.Given as goal

-- the bytes are those that came, and the source has not failed
abbrev pub invariant-loop-n : goal.invariant-loop-n
invariant-loop-n g l = Consumes (g.S.Source.left l.initial.source) (g.S.Source.left l.source) l.bytes.items × (g.S.Stream.has_failed l.source ≡ false)

abbrev pub decreases-loop-n : goal.decreases-loop-n
decreases-loop-n g l = 4097 - length l.bytes.items
