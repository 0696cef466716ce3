-- What the threads of a server do with their passes.
use Rattle.std.specs.Prelude.{ℕ, ◌≡◌, ◌<◌, ◌≤◌, All, List, length, Option, None, Some, slice_get}
use Rattle.std.specs.Option.{option_map}
use Rattle.ns_types.specs.declared.ticket.Ticket.{Ticket}
use Rattle.ns_calls.specs.declared.call.Outcome.{Outcome}
use Rattle.ns_roster.specs.Network.{Network}
use Rattle.ns_output.specs.declared.output.Output.{Output}
use Rattle.ns_outside.specs.declared.receipt.Receipt.{Receipt}
use Rattle.ns_outside.specs.Notice.{Notice, call_replied}
use Rattle.ns_tally.specs.Tally.{none_made}
use Rattle.ns_workers.specs.declared.gateway.Served.{Served}
use Rattle.ns_outside.specs.declared.job.CloseJob.{CloseJob}
use Rattle.ns_workers.specs.declared.join.Joined.{Joined}
use Rattle.ns_workers.specs.Answering.{Answers, IsOutcome}
use Rattle.ns_workers.specs.Closing.{AreAnswered, calls_made, closings}
use Rattle.ns_workers.specs.Counts.{RisesByReceipts}
use Rattle.ns_workers.specs.Effects.{effects}
use Rattle.ns_workers.specs.Serving.{ServesAll}
use Rattle.ns_serve_workers.specs.declared.closer.Turn.{Turn}
use Rattle.ns_serve_workers.specs.declared.closer.Turn.TheVariants.{Close, Idle, End}
use Rattle.ns_serve_parts.specs.declared.options.ServeFault.{ServeFault}
use Rattle.ns_serve_parts.specs.Ends.{serve_fault}

-- nothing is known of what the clock of all threads told
abbrev pub Anything : {X : Type 0} → X → Type 0
Anything x = Unit {0}

-- The counts of a pass rose by these receipts alone, each right for its call, and each of which the monitor was told. A monitor of which
-- nothing is known may have been told of any: so this says that no call was made of which it was not told.
pub record HasReceipts (net : Network) (has_heard : Notice → Type 0) (old new : List ℕ) : Type 0 where
  pub receipts : List Receipt
  pub answered : AreAnswered net receipts
  pub told : All (λ r. has_heard (call_replied r)) receipts
  pub counted : RisesByReceipts old new receipts

-- the same of receipts that are of the closings of these jobs, in order
pub record HasClosed (net : Network) (has_heard : Notice → Type 0) (jobs : List CloseJob) (old new : List ℕ) : Type 0 where
  pub receipts : List Receipt
  pub closed : calls_made receipts ≡ closings jobs
  pub answered : AreAnswered net receipts
  pub told : All (λ r. has_heard (call_replied r)) receipts
  pub counted : RisesByReceipts old new receipts

-- What a gateway worker did from its start to its end: what comes of the turns of some datagrams (nothing is said of those it was given).
-- The counts of its pass are those of receipts of which the monitor was told, as it was of each refusal and of each call that was dropped.
pub record IsServed (net : Network) (output : Output) (has_heard : Notice → Type 0) (window_ms : ℕ) (pass : List ℕ) (fault : Option ServeFault) : Type 0 where
  pub served : Served
  pub serves : ServesAll net output has_heard Anything window_ms None None (effects none_made None None None) (effects pass None None None) served
  pub ended : fault ≡ option_map serve_fault served.fault

-- What a join worker did from its start to its end: what comes of answers to some tickets (nothing is said of those it was given). The
-- counts of its pass are those of receipts of which the monitor was told, as it was of each ticket without an answer.
pub record IsAnswered (net : Network) (has_heard : Notice → Type 0) (HasOutcome : Ticket → Outcome → Type 0) (pass : List ℕ) (fault : Option ServeFault) : Type 0 where
  pub joined : Joined
  pub answers : Answers net has_heard (IsOutcome has_heard Anything HasOutcome) None None (effects none_made None None None) (effects pass None None None) joined
  pub ended : fault ≡ option_map serve_fault joined.fault

-- what the closer is to do where this job is the next one, and what it holds then: to close windows, 64 at most, of which this job's is the
-- first; or to do nothing, while it holds the job
abbrev pub IsTurnWith : CloseJob → Option CloseJob → Turn → Type 0
IsTurnWith first held (Close jobs) = (0 < length jobs.items) × (length jobs.items ≤ 64) × (slice_get jobs.items 0 ≡ Some first)
IsTurnWith first held Idle = held ≡ Some first
IsTurnWith first held End = ⊥

-- what it is to do after it held a job: the same with that job, unless the server stops; where it held none, a job that came may be held
abbrev pub IsTurn : Option CloseJob → Option CloseJob → Turn → Type 0
IsTurn held new End = new ≡ held
IsTurn (Some first) new turn = IsTurnWith first new turn
IsTurn None new (Close jobs) = (0 < length jobs.items) × (length jobs.items ≤ 64)
IsTurn None new Idle = Unit {0}
