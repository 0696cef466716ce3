use Rattle.ns_sessions.proofs.Joins.{joins_agree}
use Rattle.ns_sessions.proofs.laws.joins_agree.Goals as goal

pub returns : goal.returns
returns c = λ net h. joins_agree net h
