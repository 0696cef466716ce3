use Rattle.std.proofs.KnownBytes.{Consumes-trans}
use Rattle.ns_types.proofs.transfer.read_all.Goals as goal

pub returns-in_err-extend_from_slice-clause-lost :
    goal.returns-in_err-extend_from_slice-clause-lost
returns-in_err-extend_from_slice-clause-lost g c =
    (_, Consumes-trans _ _ _ _ _ (c.loop-bytes.invariant.0) (c.in_ok-n.ensures.bytes.0))
