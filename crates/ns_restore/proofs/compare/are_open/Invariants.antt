use Rattle.std.proofs.Common.{◌≡◌, length}
use Rattle.ns_restore.proofs.compare.are_open.Given as goal

-- all windows are the tables' if those that are left are
abbrev pub invariant-ours : goal.invariant-ours
invariant-ours l = l.rest ≡ l.ours → l.tables ≡ l.windows

abbrev pub decreases-ours : goal.decreases-ours
decreases-ours l = length l.ours
