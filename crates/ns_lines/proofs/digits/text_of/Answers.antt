use Rattle.ns_lines.proofs.HexDigits.{are_places, text_of_halves}
use Rattle.std.proofs.Common.{◌∙◌}
use Rattle.ns_lines.proofs.digits.text_of.Goals as goal

pub characters-requires : goal.characters-requires
characters-requires c = are_places c.args.bytes c.fits-bytes.0 c.fits-bytes.1

pub returns : goal.returns
returns c = c.characters.ensures ∙ text_of_halves c.args.bytes c.fits-bytes.0 c.fits-bytes.1
