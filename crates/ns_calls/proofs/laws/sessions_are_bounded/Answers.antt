use Rattle.ns_calls.proofs.JoinLemmas.{sessions_bounded}
use Rattle.ns_calls.proofs.laws.sessions_are_bounded.Goals as goal

pub returns : goal.returns
returns c = sessions_bounded
