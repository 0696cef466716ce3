use Rattle.std.proofs.Common.{◌≡◌, length}
use Rattle.ns_calls.specs.Queries.{greater}
use Rattle.ns_calls.specs.History.{greatest_accepted, greatest_nonce}
use Rattle.ns_plain.proofs.plain.greatest_nonce.Given as goal

-- the greatest so far and the greatest among the entries that are left give that of all
abbrev pub invariant-scan : goal.invariant-scan
invariant-scan l = greater l.greatest (greatest_accepted l.rest l.eui) ≡ greatest_nonce l.roster l.entries l.eui

abbrev pub decreases-scan : goal.decreases-scan
decreases-scan l = length l.rest
