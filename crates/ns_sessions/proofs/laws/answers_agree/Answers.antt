use Rattle.ns_sessions.proofs.JoinAnswers.{answers_agree}
use Rattle.ns_sessions.proofs.laws.answers_agree.Goals as goal

pub returns : goal.returns
returns c = λ net h. answers_agree net h
