use Rattle.std.proofs.Common.{[], take}
use Rattle.std.proofs.KnownBytes.{Appends-nil, Appends-trans, Appends-kept}
use Rattle.ns_serve_streams.proofs.waiting.WaitingWriterWrite.write.Goals as goal

pub loop-turn-init : goal.loop-turn-init
loop-turn-init g c = Appends-nil (g.W.Write.contents c.args.self.now.writer)

pub returns-in-Ok-clause-bytes : goal.returns-in-Ok-clause-bytes
returns-in-Ok-clause-bytes g c =
    Appends-trans (g.W.Write.contents c.args.self.now.writer) (g.W.Write.contents c.loop-turn.self.writer) (g.W.Write.contents c.write.new.self) [] (take c.in-Ok.n c.args.buf.now) c.loop-turn.invariant c.in-Ok.ensures.bytes

pub loop-turn-preserved-in-WouldBlock : goal.loop-turn-preserved-in-WouldBlock
loop-turn-preserved-in-WouldBlock g c =
    Appends-kept (g.W.Write.contents c.args.self.now.writer) (g.W.Write.contents c.loop-turn.self.writer) (g.W.Write.contents c.write.new.self) [] c.loop-turn.invariant c.in-Err.ensures.bytes

pub loop-turn-preserved : goal.loop-turn-preserved
loop-turn-preserved g c =
    Appends-kept (g.W.Write.contents c.args.self.now.writer) (g.W.Write.contents c.loop-turn.self.writer) (g.W.Write.contents c.write.new.self) [] c.loop-turn.invariant c.in-Err.ensures.bytes
