use Rattle.ns_steps.proofs.HexDigits.{sixteen_read, sixteen_small}
use Rattle.ns_steps.proofs.hex_digits.sixteen_bytes.Goals as goal

pub returns-clause-read : goal.returns-clause-read
returns-clause-read c =
    sixteen_read c.args.text.now c.values-front.result c.values-back.result c.requires c.type_inv.text c.values-front.ensures c.values-back.ensures
    (c.are_digits.ensures.0 c.if-not-are_digits.false)

pub returns-then-not-are_digits-clause-refused : goal.returns-then-not-are_digits-clause-refused
returns-then-not-are_digits-clause-refused c digits =
    let small = sixteen_small c.args.text.now c.values-front.result c.values-back.result c.requires c.type_inv.text c.values-front.ensures c.values-back.ensures digits in
    let found = c.are_digits.ensures.1 small in
    let seen = c.if-not-are_digits.true in
    absurd (cc (found, seen))
