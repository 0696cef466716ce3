use Rattle.std.proofs.Common.{rules, tests}
use Rattle.std.proofs.lemmas.Slice.Eq.{slice_eq-Decides}
use Rattle.ns_sent.proofs.same.are_heard.Goals as goal

pub returns : goal.returns
returns c = slice_eq-Decides (λ a b. search (rules, tests)) c.args.a.now c.args.b.now _ c.eq.ensures
