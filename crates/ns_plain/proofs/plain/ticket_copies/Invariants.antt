use Rattle.std.proofs.Common.{◌≡◌, length}
use Rattle.ns_calls.specs.Queries.{from_last}
use Rattle.ns_calls.specs.History.{asks_for}
use Rattle.ns_plain.proofs.plain.ticket_copies.Given as goal

-- the last entry that asks for the ticket is among those that are left
abbrev pub invariant-scan : goal.invariant-scan
invariant-scan l = from_last (asks_for l.ticket) l.rest ≡ from_last (asks_for l.ticket) l.entries

abbrev pub decreases-scan : goal.decreases-scan
decreases-scan l = length l.rest
