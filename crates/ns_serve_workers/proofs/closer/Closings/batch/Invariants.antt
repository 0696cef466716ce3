use Rattle.std.proofs.Common.{◌≡◌, ◌-◌, ◌<◌, ◌≤◌, Some, vec_len, vec_capacity}
use Rattle.std.specs.Prelude.{slice_get}
use Rattle.ns_serve_workers.proofs.closer.Closings.batch.Given as goal

-- there is room for 64 jobs, and the first is there
abbrev pub invariant-loop-moment : goal.invariant-loop-moment
invariant-loop-moment g l =
    (64 ≤ vec_capacity l.jobs) × (0 < vec_len l.jobs) × (vec_len l.jobs ≤ 64) × (slice_get l.jobs.items 0 ≡ Some l.fn.first)

abbrev pub decreases-loop-moment : goal.decreases-loop-moment
decreases-loop-moment g l = 64 - vec_len l.jobs
