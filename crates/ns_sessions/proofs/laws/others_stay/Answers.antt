use Rattle.ns_sessions.proofs.Uplinks.{others_stay}
use Rattle.ns_sessions.proofs.laws.others_stay.Goals as goal

pub returns : goal.returns
returns c = others_stay
