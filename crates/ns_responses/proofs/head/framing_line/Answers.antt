use Rattle.std.proofs.Common.{◌≡◌, ◌∷◌, sym, ◌∙◌, subst, arith, take, drop}
use Rattle.std.proofs.lemmas.List.{length-drop, take_rest}
use Rattle.ns_responses.specs.Lines.{lines_of}
use Rattle.ns_responses.proofs.HeadLemmas.{framed_kept, framed_first}
use Rattle.ns_responses.proofs.head.framing_line.Goals as goal

pub loop-at-preserved-else-is_some : goal.loop-at-preserved-else-is_some
loop-at-preserved-else-is_some c =
    let head = c.args.head.now in
    let at = c.loop-at.at in
    let size = c.line_length.result in
    let line = subst (λ l. lines_of l ≡ take size l ∷ lines_of (drop size l)) (take_rest head at) c.line_length.ensures.line in
    framed_first head at size (omega (arith, c.line_length.ensures.within, length-drop at head)) line
    c.loop-at.found (sym c.is_some.ensures ∙ c.if-is_some.false) (sym c.is_framing.ensures ∙ c.if-is_framing.true) c.loop-at.invariant

pub loop-at-preserved : goal.loop-at-preserved
loop-at-preserved c =
    let head = c.args.head.now in
    let at = c.loop-at.at in
    let size = c.line_length.result in
    let line = subst (λ l. lines_of l ≡ take size l ∷ lines_of (drop size l)) (take_rest head at) c.line_length.ensures.line in
    framed_kept head at size (omega (arith, c.line_length.ensures.within, length-drop at head)) line
    c.loop-at.found (sym c.is_framing.ensures ∙ c.if-is_framing.false) c.loop-at.invariant
