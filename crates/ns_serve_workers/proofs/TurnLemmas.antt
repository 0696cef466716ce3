-- What the closer is to do.
use Rattle.std.proofs.Common.{◌≡◌, List, [], ◌∷◌, ◌++◌, Option, Some, None, Result, Ok, Err}
use Rattle.std.specs.Prelude.{IfOk, slice_get}
use Rattle.ns_outside.specs.declared.job.CloseJob.{CloseJob}
use Rattle.ns_serve_workers.specs.declared.closer.Turn.{Turn}
use Rattle.ns_serve_workers.specs.declared.closer.Turn.TheVariants.{Close, Idle, End}
use Rattle.ns_serve_workers.specs.Turns.{IsTurn, IsTurnWith}

-- the first job stays the first
pub first_stays : (jobs more : List CloseJob) (first : CloseJob) → slice_get jobs 0 ≡ Some first → slice_get (jobs ++ more) 0 ≡ Some first
first_stays [] more first is = cc
first_stays (job ∷ jobs) more first is = is

-- with a job that was held
pub turn_held : {E : Type 0} (first : CloseJob) (new : Option CloseJob) (r : Result Turn E) → IfOk r (IsTurnWith first new) → IfOk r (IsTurn (Some first) new)
turn_held first new (Ok (Close jobs)) so = so
turn_held first new (Ok Idle) so = so
turn_held first new (Ok End) so = absurd so
turn_held first new (Err e) so = tt

-- with a job that came
pub turn_new : {E : Type 0} (first : CloseJob) (new : Option CloseJob) (r : Result Turn E) → IfOk r (IsTurnWith first new) → IfOk r (IsTurn None new)
turn_new first new (Ok (Close jobs)) so = (so.0, so.1)
turn_new first new (Ok Idle) so = tt
turn_new first new (Ok End) so = absurd so
turn_new first new (Err e) so = tt
