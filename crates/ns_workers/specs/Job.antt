-- What workers do with a job.
use Rattle.std.specs.Prelude.{ℕ, ◌-◌, ◌<◌}
use Rattle.ns_calls.specs.declared.call.Call.{Call}
use Rattle.ns_calls.specs.declared.call.Call.TheVariants as call
use Rattle.ns_calls.specs.declared.call.Outcome.TheVariants.{Failed}
use Rattle.ns_outside.specs.declared.job.AskJob.{AskJob}
use Rattle.ns_outside.specs.declared.job.Job.{Job}
use Rattle.ns_outside.specs.declared.job.Job.TheVariants.{Close, Ask}

-- the call that does a job at once: its window is closed, or its ticket answered as failed
abbrev pub call_at_once : Job → Call
call_at_once (Close job) = call.Close job.name
call_at_once (Ask job) = call.JoinReply job.ticket Failed

-- the join server is not asked about a ticket that is over 4.5 s old
abbrev pub IsTooOld : AskJob → ℕ → Type 0
IsTooOld job now = 4500 < now - job.since
