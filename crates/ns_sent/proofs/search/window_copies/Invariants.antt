use Rattle.std.proofs.Common.{◌≡◌, ◌++◌, length}
use Rattle.ns_calls.specs.History.{window_copies}
use Rattle.ns_sent.proofs.search.window_copies.Given as goal

-- the copies so far and those among the entries that are left make the whole
abbrev pub invariant-scan : goal.invariant-scan
invariant-scan l = l.copies.items ++ window_copies l.rest l.name ≡ window_copies l.entries l.name

abbrev pub decreases-scan : goal.decreases-scan
decreases-scan l = length l.rest
