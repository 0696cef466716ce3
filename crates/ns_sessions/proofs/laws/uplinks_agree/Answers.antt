use Rattle.ns_sessions.proofs.Uplinks.{uplinks_agree}
use Rattle.ns_sessions.proofs.laws.uplinks_agree.Goals as goal

pub returns : goal.returns
returns c = λ net h. uplinks_agree net h
