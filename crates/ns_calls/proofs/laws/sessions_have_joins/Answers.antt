use Rattle.ns_calls.proofs.KeyLemmas.{sessions_have_joins}
use Rattle.ns_calls.proofs.laws.sessions_have_joins.Goals as goal

pub returns : goal.returns
returns c = sessions_have_joins
