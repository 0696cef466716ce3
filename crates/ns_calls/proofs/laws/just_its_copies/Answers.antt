use Rattle.ns_calls.proofs.CopyLemmas.{open_copies, just_its_copies}
use Rattle.ns_calls.proofs.laws.just_its_copies.Goals as goal

pub returns-clause-open : goal.returns-clause-open
returns-clause-open c = open_copies

pub returns-clause-sent : goal.returns-clause-sent
returns-clause-sent c = just_its_copies
