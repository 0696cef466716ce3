use Rattle.ns_calls.proofs.OutLemmas.{windows_have_copies, goes_out}
use Rattle.ns_calls.proofs.laws.what_goes_out.Goals as goal

pub returns-clause-copies : goal.returns-clause-copies
returns-clause-copies c = windows_have_copies

pub returns-clause-answer : goal.returns-clause-answer
returns-clause-answer c = goes_out
