use Rattle.std.proofs.Common.{eqb-true, eq-eqb}
use Rattle.ns_steps.proofs.HexDigits.{are_small}
use Rattle.ns_steps.proofs.hex_digits.are_digits.Goals as goal

pub returns : goal.returns
returns c =
    let test = are_small c.args.values c.fits-values.0 in
    (λ h. test.0 (eqb-true _ _ h), λ h. eq-eqb _ _ (test.1 h))
