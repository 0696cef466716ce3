use Rattle.ns_device.proofs.Created.{taken}
use Rattle.ns_device.proofs.laws.created_accepts_are_taken.Goals as goal

pub returns : goal.returns
returns c = taken c.ciphers_undo_each_other.ensures.enciphered
