use Rattle.std.proofs.Common.{rules, arith, ◌+◌, sym}
use Rattle.ns_steps.proofs.Digits.{number_too_large, number_of_digits, decimal_value_more}
use Rattle.ns_steps.proofs.step_lines.number.Goals as goal

pub returns-then-value-from : goal.returns-then-value-from
returns-then-value-from c =
    let i = c.digits.invariant in
    sym (number_too_large c.args.text.now (c.digits.digit-index + 1) (omega (arith, decimal_value_more c.args.text.now c.digits.digit-index 0 c.digits-test.true, i.value, c.from.ensures, c.from-in-digits.ensures, c.if-value-from.true)))

pub returns : goal.returns
returns c =
    let i = c.digits.invariant in
    number_of_digits c.args.text.now c.digits.digit-index c.digits.value (search rules) c.digits-test.false i.value i.digits i.small
