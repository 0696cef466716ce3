use Rattle.std.proofs.Common.{◌≡◌, List, ℕ, IsAscii, ap, sym, subst, ◌∙◌, length, arith}
use Rattle.std.proofs.lemmas.List.{take_all}
use Rattle.std.specs.Simd.Lanes.{chunk}
use Rattle.hex.specs.Hex.{encode_lower, lower_digits}
use Rattle.hex.proofs.HexLemmas.{IsAscii-encode_with}
use Rattle.ns_lines.proofs.HexDigits.{ascii_digits}
use Rattle.ns_lines.proofs.digits.digits_of_eight.Goals as goal

text_is : (digits text : List ℕ) → length text ≡ 8 → digits ≡ encode_lower (chunk 0 8 text) → digits ≡ encode_lower text
text_is digits text long is = is ∙ ap encode_lower (take_all 8 text (omega (arith, long)))

pub returns-clause-text : goal.returns-clause-text
returns-clause-text c = text_is _ c.args.bytes.now c.requires c.text_of.ensures

pub returns-clause-ascii : goal.returns-clause-ascii
returns-clause-ascii c =
    subst IsAscii (sym (text_is _ c.args.bytes.now c.requires c.text_of.ensures)) (IsAscii-encode_with lower_digits c.args.bytes.now ascii_digits)
