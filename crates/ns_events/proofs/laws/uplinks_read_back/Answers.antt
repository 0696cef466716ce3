use Rattle.ns_events.proofs.ReadBack.{read-back}
use Rattle.ns_events.proofs.laws.uplinks_read_back.Goals as goal

pub returns : goal.returns
returns c = read-back
