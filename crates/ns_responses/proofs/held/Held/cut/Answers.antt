use Rattle.std.proofs.Common.{◌-◌, ◌∙◌, ap, arith}
use Rattle.ns_responses.proofs.HeldLemmas.{held, cut_out}
use Rattle.ns_responses.proofs.held.Held.cut.Goals as goal

pub returns : goal.returns
returns c =
    let i = c.self.inside in
    let v = c.self.invariant in
    ap (λ bytes. held bytes i.start i.middle (i.end - (c.args.to - c.args.from))) c.copy_within.ensures.after
    ∙ cut_out i.bytes i.start i.middle i.end c.args.self.now c.self.view_is (v.0, v.1, omega (arith, v.2, c.self.told)) c.requires.unready c.args.from c.args.to c.requires.within.0 c.requires.within.1
