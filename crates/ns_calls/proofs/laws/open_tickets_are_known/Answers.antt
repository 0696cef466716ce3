use Rattle.ns_calls.proofs.KnownLemmas.{tickets_known}
use Rattle.ns_calls.proofs.laws.open_tickets_are_known.Goals as goal

pub returns : goal.returns
returns c = tickets_known
