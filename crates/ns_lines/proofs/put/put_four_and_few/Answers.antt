use Rattle.std.proofs.Common.{◌-◌, ◌++◌, length, take, drop, length-drop, take-append-drop, ap, ◌∙◌, arith}
use Rattle.std.proofs.lemmas.List.{take_all}
use Rattle.hex.specs.Hex.{encode_lower, lower_digits}
use Rattle.ns_lines.proofs.HexText.{encode_on}
use Rattle.ns_lines.proofs.put.put_four_and_few.Goals as goal

pub returns-clause-bytes : goal.returns-clause-bytes
returns-clause-bytes c =
    let bytes = c.args.bytes.now in
    let left = take_all (length bytes - 4) (drop 4 bytes) (omega (arith, length-drop 4 bytes)) in
    c.put_few.ensures.bytes ∙ ap (λ l. c.put_four.new.line.bytes ++ encode_lower l) left
    ∙ encode_on lower_digits _ _ (take 4 bytes) (drop 4 bytes) bytes c.put_four.ensures.bytes (take-append-drop 4 bytes)

pub returns-clause-len : goal.returns-clause-len
returns-clause-len c =
    let bytes = c.args.bytes.now in
    let left = take_all (length bytes - 4) (drop 4 bytes) (omega (arith, length-drop 4 bytes)) in
    omega (arith, c.put_few.ensures.len, c.put_four.ensures.len, length-drop 4 bytes, ap length left, c.requires.four)
