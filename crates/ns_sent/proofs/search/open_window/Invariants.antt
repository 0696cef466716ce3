use Rattle.std.proofs.Common.{◌≡◌, length}
use Rattle.ns_calls.specs.History.{open_window}
use Rattle.ns_sent.proofs.search.open_window.Given as goal

-- the window is open among all entries where it is among those that are left
abbrev pub invariant-scan : goal.invariant-scan
invariant-scan l = open_window l.rest l.name ≡ open_window l.entries l.name

abbrev pub decreases-scan : goal.decreases-scan
decreases-scan l = length l.rest
