use Rattle.std.proofs.Common.{◌≡◌, length}
use Rattle.ns_calls.specs.History.{session_join}
use Rattle.ns_sent.proofs.search.session_join.Given as goal

-- the answer is among the entries that are left
abbrev pub invariant-scan : goal.invariant-scan
invariant-scan l = session_join l.rest l.eui l.session ≡ session_join l.entries l.eui l.session

abbrev pub decreases-scan : goal.decreases-scan
decreases-scan l = length l.rest
