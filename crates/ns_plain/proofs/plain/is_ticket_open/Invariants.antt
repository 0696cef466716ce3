use Rattle.std.proofs.Common.{◌≡◌, length}
use Rattle.ns_calls.specs.History.{is_ticket_open}
use Rattle.ns_plain.proofs.plain.is_ticket_open.Given as goal

-- the ticket is open among all entries where it is among those that are left
abbrev pub invariant-scan : goal.invariant-scan
invariant-scan l = is_ticket_open l.rest l.ticket ≡ is_ticket_open l.entries l.ticket

abbrev pub decreases-scan : goal.decreases-scan
decreases-scan l = length l.rest
