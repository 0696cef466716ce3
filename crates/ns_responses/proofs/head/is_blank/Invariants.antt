use Rattle.std.proofs.Common.{◌≡◌, true, take}
use Rattle.std.specs.List.{list_all}
use Rattle.ns_responses.specs.Head.{is_blank}
use Rattle.ns_responses.proofs.head.is_blank.Given as goal

abbrev pub invariant-loop-byte : goal.invariant-loop-byte
invariant-loop-byte l = list_all is_blank (take l.byte-index l.text) ≡ true
