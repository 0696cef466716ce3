use Rattle.std.proofs.Common.{◌≡◌, take}
use Rattle.ns_sessions.proofs.ticket.same_tickets.Given as goal

-- the first tickets are the same
abbrev pub invariant-loop-place : goal.invariant-loop-place
invariant-loop-place l = take l.place l.tickets ≡ take l.place l.others
