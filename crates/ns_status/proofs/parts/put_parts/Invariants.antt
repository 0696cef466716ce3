use Rattle.std.proofs.Common.{◌≡◌, ◌++◌, drop, string_bytes}
use Rattle.ns_status.specs.Parts.{parts_text}
use Rattle.ns_status.proofs.parts.put_parts.Given as goal

-- the text so far with the parts that are left is the whole
abbrev pub invariant-loop-part : goal.invariant-loop-part
invariant-loop-part l = string_bytes l.text ++ parts_text (drop l.part-index l.parts) ≡ string_bytes l.initial.text ++ parts_text l.parts
