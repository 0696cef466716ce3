use Rattle.std.proofs.Common.{IsAscii, ap, sym, subst, ◌∙◌}
use Rattle.hex.specs.Hex.{lower_digits}
use Rattle.hex.proofs.HexLemmas.{IsAscii-encode_with}
use Rattle.ns_lines.proofs.HexDigits.{ascii_digits, first_half, text_of_padded}
use Rattle.ns_lines.proofs.digits.digits_of_four.Goals as goal

pub returns-clause-text : goal.returns-clause-text
returns-clause-text c = ap first_half c.text_of.ensures ∙ text_of_padded c.args.bytes.now c.requires

pub returns-clause-ascii : goal.returns-clause-ascii
returns-clause-ascii c =
    subst IsAscii (sym (ap first_half c.text_of.ensures ∙ text_of_padded c.args.bytes.now c.requires)) (IsAscii-encode_with lower_digits c.args.bytes.now ascii_digits)
