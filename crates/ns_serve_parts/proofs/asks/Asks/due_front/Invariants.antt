use Rattle.std.proofs.Common.{◌≡◌, ◌+◌, ◌-◌, ◌≤◌, length, drop}
use Rattle.ns_serve_parts.specs.Asks.{due_front}
use Rattle.ns_serve_parts.proofs.asks.Asks.due_front.Given as goal

-- those before this one are due
abbrev pub invariant-loop-due : goal.invariant-loop-due
invariant-loop-due l =
    (l.due ≤ length l.self.jobs.items) × (due_front l.now l.self.jobs.items ≡ l.due + due_front l.now (drop l.due l.self.jobs.items))

abbrev pub decreases-loop-due : goal.decreases-loop-due
decreases-loop-due l = length l.self.jobs.items - l.due
