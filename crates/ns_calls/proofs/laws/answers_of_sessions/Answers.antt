use Rattle.ns_calls.proofs.KeyLemmas.{session_join-stays, session_join-next}
use Rattle.ns_calls.proofs.laws.answers_of_sessions.Goals as goal

pub returns-clause-stays : goal.returns-clause-stays
returns-clause-stays c = session_join-stays

pub returns-clause-new : goal.returns-clause-new
returns-clause-new c = session_join-next
