use Rattle.ns_calls.proofs.OutLemmas.{open-asked}
use Rattle.ns_calls.proofs.laws.open_tickets_were_asked_for.Goals as goal

pub returns : goal.returns
returns c = open-asked
