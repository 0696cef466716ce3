use Rattle.std.proofs.Common.{◌≡◌, ◌++◌, length}
use Rattle.ns_calls.specs.History.{copies_of_ticket}
use Rattle.ns_sent.proofs.search.copies_of_ticket.Given as goal

-- the copies so far and those among the entries that are left make the whole
abbrev pub invariant-scan : goal.invariant-scan
invariant-scan l = l.copies.items ++ copies_of_ticket l.rest l.ticket ≡ copies_of_ticket l.entries l.ticket

abbrev pub decreases-scan : goal.decreases-scan
decreases-scan l = length l.rest
