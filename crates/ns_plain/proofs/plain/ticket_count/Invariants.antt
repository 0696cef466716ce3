use Rattle.std.proofs.Common.{◌≡◌, ◌≤◌, ◌+◌, length}
use Rattle.ns_calls.specs.History.{ticket_count}
use Rattle.ns_plain.proofs.plain.ticket_count.Given as goal

-- the count so far and that among the entries that are left make the whole
abbrev pub invariant-scan : goal.invariant-scan
invariant-scan l = record {
  whole : l.count + ticket_count l.rest l.eui ≡ ticket_count l.entries l.eui;
  bound : l.count + length l.rest ≤ length l.entries;
}

abbrev pub decreases-scan : goal.decreases-scan
decreases-scan l = length l.rest
