use Rattle.std.proofs.Common.{◌≡◌, drop}
use Rattle.std.specs.List.{list_all}
use Rattle.ns_status.specs.Request.{is_address_byte}
use Rattle.ns_status.proofs.request.are_address_bytes.Given as goal

-- the bytes that are left decide
abbrev pub invariant-loop-byte : goal.invariant-loop-byte
invariant-loop-byte l = list_all is_address_byte (drop l.byte-index l.host) ≡ list_all is_address_byte l.host
