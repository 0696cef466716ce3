use Rattle.std.proofs.Common.{◌≡◌, drop}
use Rattle.ns_forwarder.specs.TxAck.{are_blank}
use Rattle.ns_forwarder.proofs.outcome.are_blank.Given as goal

abbrev pub invariant-loop-byte : goal.invariant-loop-byte
invariant-loop-byte l = are_blank (drop l.byte-index l.body) ≡ are_blank l.body
