use Rattle.std.proofs.Common.{arith}
use Rattle.ns_responses.proofs.HeldLemmas.{released}
use Rattle.ns_responses.proofs.held.Held.release.Goals as goal

pub returns : goal.returns
returns c =
    let i = c.self.inside in
    let v = c.self.invariant in
    released i.bytes i.start i.middle i.end c.args.self.now c.self.view_is (v.0, v.1, omega (arith, v.2, c.self.told)) c.requires.unready c.args.count c.requires.within
