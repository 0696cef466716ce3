use Rattle.ns_sessions.proofs.Uplinks.{closings_agree}
use Rattle.ns_sessions.proofs.laws.closings_agree.Goals as goal

pub returns : goal.returns
returns c = λ net h. closings_agree net h
