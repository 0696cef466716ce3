use Rattle.ns_calls.proofs.LegalLemmas.{history_none, history_more}
use Rattle.ns_calls.proofs.laws.one_more_call.Goals as goal

pub returns-clause-empty : goal.returns-clause-empty
returns-clause-empty c = history_none

pub returns-clause-more : goal.returns-clause-more
returns-clause-more c = history_more
