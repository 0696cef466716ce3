use Rattle.std.proofs.Common.{◌≡◌, None, Some, position, get_or, sym, ap, ◌∙◌}
use Rattle.ns_sessions.proofs.Tickets.{is_of, FirstAt, none_found, first_found, among-first, without-first}
use Rattle.ns_sessions.proofs.ticket.remove_ticket.Goals as goal
use Rattle.ns_sessions.proofs.ticket.remove_ticket.Goals.{After-remove}

pub returns-in_err-place-clause-ticket : goal.returns-in_err-place-clause-ticket
returns-in_err-place-clause-ticket c =
    let none : position (is_of c.args.ticket.now) c.args.tickets.now.items ≡ None = rw c.as_slice.ensures.value at (sym c.in_err-place.ensures.place) in
    let gone = (none_found c.args.ticket.now c.args.tickets.now.items none).0 in
    cc (c.from_residual.ensures, gone)

pub returns-in_err-place-clause-others : goal.returns-in_err-place-clause-others
returns-in_err-place-clause-others c =
    let none : position (is_of c.args.ticket.now) c.args.tickets.now.items ≡ None = rw c.as_slice.ensures.value at (sym c.in_err-place.ensures.place) in
    sym (none_found c.args.ticket.now c.args.tickets.now.items none).1

there : (c : After-remove) → FirstAt c.args.ticket.now c.args.tickets.now.items c.in_ok-place.place (get_or c.args.tickets.now.items c.in_ok-place.place c.remove.result)
there c = first_found c.args.ticket.now c.args.tickets.now.items c.in_ok-place.place c.remove.result (rw c.as_slice.ensures.value at (sym c.in_ok-place.ensures.place))

pub returns-clause-ticket : goal.returns-clause-ticket
returns-clause-ticket c = ap Some c.remove.ensures.value ∙ sym (among-first _ _ _ _ (there c))

pub returns-clause-others : goal.returns-clause-others
returns-clause-others c = c.remove.ensures.items ∙ without-first _ _ _ _ (there c)
