use Rattle.std.proofs.Common.{◌≡◌, ◌≤◌, ◌+◌, length}
use Rattle.ns_calls.specs.History.{copies_of_ticket}
use Rattle.ns_plain.proofs.plain.copies.Given as goal

-- the count so far and that among the entries that are left make the whole
abbrev pub invariant-scan : goal.invariant-scan
invariant-scan l = record {
  whole : l.count + length (copies_of_ticket l.rest l.ticket) ≡ length (copies_of_ticket l.entries l.ticket);
  bound : l.count + length l.rest ≤ length l.entries;
}

abbrev pub decreases-scan : goal.decreases-scan
decreases-scan l = length l.rest
