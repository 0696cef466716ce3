use Rattle.std.proofs.Common.{◌≡◌, ℕ, List, ◌++◌, false, length}
use Rattle.std.specs.Io.KnownBytes.{Appends}
use Rattle.ns_types.proofs.transfer.write_all.Given as goal

abbrev pub invariant-loop-rest : goal.invariant-loop-rest
invariant-loop-rest g l = ((done : List ℕ) × (l.initial.rest ≡ done ++ l.rest) × Appends (g.S.Sink.taken l.initial.sink) (g.S.Sink.taken l.sink) done) × (g.S.Stream.has_failed l.sink ≡ false)

abbrev pub decreases-loop-rest : goal.decreases-loop-rest
decreases-loop-rest g l = length l.rest
