use Rattle.std.proofs.Common.{◌∷◌, sym, ◌∙◌, arith, length}
use Rattle.std.proofs.lemmas.Bool.{eq-eqb}
use Rattle.std.proofs.lemmas.List.{take_all, drop_all}
use Rattle.ns_responses.specs.Lines.{lines_of}
use Rattle.ns_responses.proofs.LinesLemmas.{first_line, last_line}
use Rattle.ns_responses.proofs.head.line_length.Goals as goal

pub returns-then-bytes-i-eq10-clause-line : goal.returns-then-bytes-i-eq10-clause-line
returns-then-bytes-i-eq10-clause-line c = first_line c.args.bytes.now c.loop-i.i c.loop-i-test.true c.loop-i.invariant (eq-eqb _ 10 c.if-bytes-i-eq10.true)

pub returns-clause-line : goal.returns-clause-line
returns-clause-line c =
    let bytes = c.args.bytes.now in
    let whole = take_all (length bytes) bytes (omega arith) in
    let none = drop_all (length bytes) bytes (omega arith) in
    last_line bytes c.requires (λ k below. c.loop-i.invariant k (omega (arith, c.loop-i-test.false)))
    ∙ (λ i. sym whole i ∷ lines_of (sym none i))
