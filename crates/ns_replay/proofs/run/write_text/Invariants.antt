use Rattle.std.proofs.Common.{◌≡◌, ◌++◌, List, ℕ, false, length}
use Rattle.std.specs.Io.KnownBytes.{Appends}
use Rattle.ns_replay.proofs.run.write_text.Given as goal

-- what is written and the rest are the whole
abbrev pub invariant-pieces : goal.invariant-pieces
invariant-pieces g l = record {
  sound : g.W.Stream.has_failed l.writer ≡ false;
  whole : (written : List ℕ) × Appends (g.W.Sink.taken l.initial.writer) (g.W.Sink.taken l.writer) written × (written ++ l.rest ≡ l.text);
}

abbrev pub decreases-pieces : goal.decreases-pieces
decreases-pieces g l = length l.rest
