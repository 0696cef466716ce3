use Rattle.std.proofs.Common.{[]}
use Rattle.std.specs.Io.KnownBytes.{Appends}
use Rattle.ns_serve_streams.proofs.waiting.WaitingWriterWrite.write.Given as goal

-- the writer has taken nothing yet
abbrev pub invariant-loop-turn : goal.invariant-loop-turn
invariant-loop-turn g l = Appends (g.W.Write.contents l.fn.self.writer) (g.W.Write.contents l.self.writer) []
