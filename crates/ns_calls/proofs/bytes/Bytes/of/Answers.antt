use Rattle.std.proofs.Common.{refl}
use Rattle.std.proofs.Math.Seq.{take-append_seam}
use Rattle.std.proofs.lemmas.List.{drop-replicate}
use Rattle.ns_calls.proofs.bytes.Bytes.of.Goals as goal

pub invariant_of-result : goal.invariant_of-result
invariant_of-result g c = rw (c.copy_from_slice.ensures.after, drop-replicate, take-append_seam) (refl, refl)
