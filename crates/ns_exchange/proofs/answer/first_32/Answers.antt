use Rattle.std.proofs.Common.{arith, sym, ◌∙◌, ◌≡◌, take}
use Rattle.std.proofs.lemmas.Grind.{common_steps}
use Rattle.ns_exchange.proofs.CutLemmas.{first_32_cut}
use Rattle.ns_exchange.proofs.answer.first_32.Goals as goal

pub returns-else-text-le32-clause-front : goal.returns-else-text-le32-clause-front
returns-else-text-le32-clause-front c =
    let e = c.floor_char_boundary-end.ensures in
    let front : c.range.result.now ≡ take c.floor_char_boundary-end.result c.args.text.now = grind (arith, common_steps) in
    front ∙ sym (first_32_cut c.args.text.now c.floor_char_boundary-end.result c.if-text-le32.false (e.bound, e.boundary, e.nearest))
