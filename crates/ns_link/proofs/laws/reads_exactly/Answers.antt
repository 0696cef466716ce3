use Rattle.ns_link.proofs.UpLayout.{reads-exactly}
use Rattle.ns_link.proofs.laws.reads_exactly.Goals as goal

pub returns : goal.returns
returns c = reads-exactly
