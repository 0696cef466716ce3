use Rattle.std.proofs.lemmas.Str.{IsUtf8-from_ascii}
use Rattle.ns_lines.proofs.put.put_text.Goals as goal

pub from_utf8_unchecked-requires : goal.from_utf8_unchecked-requires
from_utf8_unchecked-requires g c = IsUtf8-from_ascii c.args.text.now c.requires.ascii
