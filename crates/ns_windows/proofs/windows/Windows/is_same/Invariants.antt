use Rattle.std.proofs.Common.{◌≡◌, length}
use Rattle.ns_windows.proofs.windows.Windows.is_same.Given as goal

-- the windows are the same where those that are left are
abbrev pub invariant-ours : goal.invariant-ours
invariant-ours l = (l.ours ≡ l.theirs → l.self ≡ l.other) × (l.self ≡ l.other → l.ours ≡ l.theirs)

abbrev pub decreases-ours : goal.decreases-ours
decreases-ours l = length l.ours
