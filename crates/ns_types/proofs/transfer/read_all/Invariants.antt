use Rattle.std.proofs.Common.{◌≡◌, ◌-◌, ◌^◌, false, vec_len}
use Rattle.std.specs.Io.KnownBytes.{Consumes}
use Rattle.ns_types.proofs.transfer.read_all.Given as goal

abbrev pub invariant-loop-bytes : goal.invariant-loop-bytes
invariant-loop-bytes g l = Consumes (g.S.Source.left l.initial.source) (g.S.Source.left l.source) l.bytes.items × (g.S.Stream.has_failed l.source ≡ false)

abbrev pub decreases-loop-bytes : goal.decreases-loop-bytes
decreases-loop-bytes g l = 2 ^ 64 - vec_len l.bytes
