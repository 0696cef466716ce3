use Rattle.std.proofs.Common.{◌-◌, ◌++◌, length, take, drop, length-drop, take-append-drop, refl, ap, ◌∙◌, arith}
use Rattle.std.proofs.lemmas.List.{take_all}
use Rattle.hex.specs.Hex.{encode_lower, lower_digits}
use Rattle.ns_lines.proofs.HexText.{encode_on}
use Rattle.ns_lines.proofs.put.put_hex.Goals as goal

pub eights-init : goal.eights-init
eights-init c = (refl, refl)

pub eights-preserved : goal.eights-preserved
eights-preserved c =
    let rest = c.eights.rest.now in
    let left = take_all (length rest - 8) (drop 8 rest) (omega (arith, length-drop 8 rest)) in (
      ap (λ l. c.put_eight.new.line.bytes ++ encode_lower l) left
          ∙ encode_on lower_digits _ _ (take 8 rest) (drop 8 rest) rest c.put_eight.ensures.bytes (take-append-drop 8 rest) ∙ c.eights.invariant.0,
      omega (arith, c.put_eight.ensures.len, c.eights.invariant.1, length-drop 8 rest, ap length left),
    )

pub returns-clause-bytes : goal.returns-clause-bytes
returns-clause-bytes c = c.put_rest.ensures.bytes ∙ c.eights.invariant.0

pub returns-clause-len : goal.returns-clause-len
returns-clause-len c = omega (arith, c.put_rest.ensures.len, c.eights.invariant.1)
