use Rattle.std.specs.Io.KnownBytes.{append_known}
use Rattle.ns_serve_streams.specs.Output.{Grows}
use Rattle.ns_serve_shards.proofs.end.drain.Given as goal

abbrev pub invariant-loop-turn : goal.invariant-loop-turn
invariant-loop-turn g l =
    Grows (append_known (g.W.Sink.taken l.fn.output.writer) l.fn.output.lines.items) (append_known (g.W.Sink.taken l.output.writer) l.output.lines.items)
