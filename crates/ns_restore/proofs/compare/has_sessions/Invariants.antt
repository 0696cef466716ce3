use Rattle.std.proofs.Common.{◌≡◌, length}
use Rattle.ns_restore.proofs.compare.has_sessions.Given as goal

-- all sessions are the same if those that are left are
abbrev pub invariant-ours : goal.invariant-ours
invariant-ours l = l.rest ≡ l.ours → l.others ≡ l.sessions

abbrev pub decreases-ours : goal.decreases-ours
decreases-ours l = length l.ours
