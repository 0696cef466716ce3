-- The base of a record: the first line of one that an older program compacted.
use Rattle.std.specs.Prelude.{ℕ, List, ◌++◌, codes}
use Rattle.std.specs.Int.{w64, to_be_bytes}
use Rattle.hex.specs.Hex.{encode_lower}
use Rattle.ns_resume.specs.declared.base.Base.{Base}

-- `base LINES UPS`, each number of sixteen hex digits
unfoldable pub base_text : Base → List ℕ
base_text b = codes "base " ++ encode_lower (to_be_bytes w64 b.lines) ++ codes " " ++ encode_lower (to_be_bytes w64 b.ups)
