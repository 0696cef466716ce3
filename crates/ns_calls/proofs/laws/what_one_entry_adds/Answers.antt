use Rattle.ns_calls.proofs.PushLemmas.{acceptances-push, openings-push, closings-push, open_windows-push, window_copies-push, open_tickets-push, ticket_copies-push}
use Rattle.ns_calls.proofs.RoundLemmas.{rounds-push}
use Rattle.ns_calls.proofs.laws.what_one_entry_adds.Goals as goal

pub returns-clause-acceptances : goal.returns-clause-acceptances
returns-clause-acceptances c = acceptances-push

pub returns-clause-openings : goal.returns-clause-openings
returns-clause-openings c = openings-push

pub returns-clause-closings : goal.returns-clause-closings
returns-clause-closings c = closings-push

pub returns-clause-open_windows : goal.returns-clause-open_windows
returns-clause-open_windows c = open_windows-push

pub returns-clause-rounds : goal.returns-clause-rounds
returns-clause-rounds c = rounds-push

pub returns-clause-window_copies : goal.returns-clause-window_copies
returns-clause-window_copies c = window_copies-push

pub returns-clause-open_tickets : goal.returns-clause-open_tickets
returns-clause-open_tickets c = open_tickets-push

pub returns-clause-ticket_copies : goal.returns-clause-ticket_copies
returns-clause-ticket_copies c = ticket_copies-push
