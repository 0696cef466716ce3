use Rattle.std.proofs.Common.{◌≡◌, ◌%◌, length, ◌∙◌, arith, subst, sym, IsErr}
use Rattle.std.proofs.lemmas.Bool.{OnTrue_from, OnFalse_from, ltb-true, ltb-false}
use Rattle.hex.proofs.HexLemmas.{decode_of-even}
use Rattle.hex.proofs.Pairs.{decode_done}
use Rattle.ns_steps.proofs.HexTextLemmas.{read_on}
use Rattle.ns_steps.proofs.hex_text.decode_into.Goals as goal

pub bytes-preserved : goal.bytes-preserved
bytes-preserved c =
    read_on c.args.text.now c.bytes.out c.bytes.i c.bytes.seen c.digit-high.result c.digit-low.result _ (omega (arith, c.requires, c.bytes-test.true)) (omega (arith, c.bytes-test.true))
    c.digit-high.ensures c.digit-low.ensures (λ high low. omega (arith, high, low)) c.bytes.invariant

pub returns-clause-read : goal.returns-clause-read
returns-clause-read c =
    let text = c.args.text.now in
    let even : length text % 2 ≡ 0 = omega (arith, c.requires) in
    OnTrue_from _ _ (λ small.
    decode_of-even text even
    ∙ decode_done text c.bytes.out c.bytes.i (omega (arith, c.bytes-test.false, c.bytes.auto.out)) (omega (arith, c.requires, c.bytes-test.false))
    (c.bytes.invariant.0 (ltb-true c.bytes.seen 16 small)))

pub returns-clause-refused : goal.returns-clause-refused
returns-clause-refused c =
    let text = c.args.text.now in
    let even : length text % 2 ≡ 0 = omega (arith, c.requires) in
    OnFalse_from _ _ (λ big. subst IsErr (sym (decode_of-even text even)) (c.bytes.invariant.1 (ltb-false c.bytes.seen 16 big)))
