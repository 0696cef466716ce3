use Rattle.std.proofs.Common.{◌≡◌, ◌+◌, ◌*◌, ◌≤◌, ◌++◌, length, flat_map, take}
use Rattle.ns_checkpoint.specs.Text.{session_fields}
use Rattle.ns_checkpoint.proofs.lines.put_sessions.Given as goal

-- the sessions so far
abbrev pub invariant-loop-session : goal.invariant-loop-session
invariant-loop-session l = (l.line.bytes ≡ l.initial.line.bytes ++ flat_map session_fields (take l.session-index l.sessions)) × (length l.line.bytes ≤ length l.initial.line.bytes + 110 * l.session-index)
