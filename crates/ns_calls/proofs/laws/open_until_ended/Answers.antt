use Rattle.ns_calls.proofs.OpenLemmas.{open_window-is, is-open_window, open_ticket-is, is-open_ticket}
use Rattle.ns_calls.proofs.laws.open_until_ended.Goals as goal

pub returns-clause-windows : goal.returns-clause-windows
returns-clause-windows c h o = (open_window-is h o, is-open_window h o)

pub returns-clause-tickets : goal.returns-clause-tickets
returns-clause-tickets c h t = (open_ticket-is h t, is-open_ticket h t)
