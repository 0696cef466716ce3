-- The job that follows a reply.
use Rattle.std.specs.Prelude.{ℕ, ◌+◌, ◌-◌, ◌^◌, min, Option, None, Some}
use Rattle.ns_calls.specs.declared.call.Reply.{Reply}
use Rattle.ns_calls.specs.declared.call.Reply.TheVariants as reply
use Rattle.ns_outside.specs.declared.job.Job.{Job}
use Rattle.ns_outside.specs.declared.job.Job.TheVariants.{Close, Ask}

-- so many milliseconds from then
abbrev pub due_at : ℕ → ℕ → ℕ
due_at now window_ms = min (now + window_ms) (2 ^ 64 - 1)

-- the copies' time of a Join-Request: that of a window, and at most 1 s
abbrev pub copies_ms : ℕ → ℕ
copies_ms window_ms = min window_ms 1000

-- a window that was opened, in any round, is to be closed, and the join server is to be asked about a ticket
abbrev pub job_of : Reply → ℕ → ℕ → Option Job
job_of (reply.Opened window) now window_ms = Some (Close (record { name = window; due = due_at now window_ms }))
job_of (reply.Again window) now window_ms = Some (Close (record { name = window; due = due_at now window_ms }))
job_of (reply.Ask ticket) now window_ms = Some (Ask (record { ticket = ticket; since = now; due = due_at now (copies_ms window_ms) }))
job_of _ now window_ms = None

-- when a job is due
abbrev pub due_of : Job → ℕ
due_of (Close job) = job.due
due_of (Ask job) = job.due
