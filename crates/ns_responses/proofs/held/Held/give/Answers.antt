use Rattle.std.proofs.Common.{arith}
use Rattle.ns_responses.proofs.HeldLemmas.{given}
use Rattle.ns_responses.proofs.held.Held.give.Goals as goal

pub returns-clause-rest : goal.returns-clause-rest
returns-clause-rest c =
    let i = c.self.inside in
    let v = c.self.invariant in
    given i.bytes i.start i.middle i.end c.args.self.now c.self.view_is (v.0, v.1, omega (arith, v.2, c.self.told)) c.min-n.result (omega (arith, c.min-n.ensures))
