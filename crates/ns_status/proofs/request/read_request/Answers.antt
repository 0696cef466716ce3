use Rattle.std.specs.Io.KnownBytes.{Consumes}
use Rattle.std.proofs.KnownBytes.{Consumes-trans}
use Rattle.ns_status.proofs.request.read_request.Goals as goal

pub returns-in-Some-clause-asked : goal.returns-in-Some-clause-asked
returns-in-Some-clause-asked g c =
    let came : Consumes (g.S.Source.left c.args.source.now) (g.S.Source.left c.read.new.self) c.add.new.head.items =
    rw c.in_ok-add.ensures.ok (Consumes-trans _ _ _ _ _ c.loop-n.invariant.0 c.in_ok-n.ensures.bytes.0) in
    (c.add.new.head.items, came, rw (c.in-Some.is, c.as_slice.ensures.value) at c.in_ok-request.ensures.some)
