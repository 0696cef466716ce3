use Rattle.std.proofs.Common.{◌≡◌, None, Some, option_map, get_or, sym, ap, ◌∙◌}
use Rattle.ns_sessions.specs.Record.{copy_decision, ticket_among}
use Rattle.ns_sessions.proofs.Tickets.{FirstAt, none_found, first_found, among-first, asked-first}
use Rattle.ns_sessions.proofs.ticket.add_copy.Goals as goal
use Rattle.ns_sessions.proofs.ticket.add_copy.Goals.{After-add_copy}

pub returns-in_err-place-clause-decision : goal.returns-in_err-place-clause-decision
returns-in_err-place-clause-decision c =
    let none : ticket_among c.args.ticket.now c.args.tickets.now ≡ None = (none_found c.args.ticket.now c.args.tickets.now (sym c.in_err-place.ensures.place)).0 in
    let gone = ap (option_map copy_decision) none in
    cc c.from_residual.ensures

there : (c : After-add_copy) → FirstAt c.args.ticket.now c.args.tickets.now c.in_ok-place.place (get_or c.args.tickets.now c.in_ok-place.place c.index-tickets-place.result)
there c = first_found _ _ _ _ (sym c.in_ok-place.ensures.place)

pub returns-clause-decision : goal.returns-clause-decision
returns-clause-decision c = ap Some c.add_copy.ensures.decision ∙ ap (option_map copy_decision) (sym (among-first _ _ _ _ (there c)))

pub returns-clause-some : goal.returns-clause-some
returns-clause-some c = rw c.add_copy.ensures.copy (asked-first _ _ _ _ _ _ (there c) c.add_copy.ensures.decision)
