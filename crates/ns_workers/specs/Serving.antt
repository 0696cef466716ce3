-- What a gateway worker does.
use Rattle.std.specs.Prelude.{ℕ, ◌≡◌, ◌+◌, ◌^◌, Bool, true, false, List, [], ◌∷◌, length, count_by, flat_map, if◌then◌else◌, Option, None, Some, Result, Ok, Err}
use Rattle.std.specs.List.{AllZip}
use Rattle.ns_roster.specs.Network.{Network}
use Rattle.ns_calls.specs.declared.call.Call.{Call}
use Rattle.ns_calls.specs.declared.call.Reply.{Reply}
use Rattle.ns_calls.specs.Steps.{Refusal, link, view, datagram_call}
use Rattle.ns_output.specs.declared.output.Output.{Output}
use Rattle.ns_outside.specs.declared.receipt.Receipt.{Receipt}
use Rattle.ns_outside.specs.declared.fault.Refused.{Refused}
use Rattle.ns_outside.specs.declared.fault.Refused.TheVariants.{Link, View}
use Rattle.ns_workers.specs.declared.gateway.Served.{Served}
use Rattle.ns_outside.specs.declared.job.Job.{Job}
use Rattle.ns_outside.specs.declared.fault.WorkerFault.{WorkerFault}
use Rattle.ns_outside.specs.declared.fault.WorkerFault.TheVariants.{NoMemory}
use Rattle.ns_workers.specs.Effects.{Effects, Does}
use Rattle.ns_outside.specs.Given.{Given, Gave}
use Rattle.ns_outside.specs.Job.{job_of}
use Rattle.ns_workers.specs.Job.{call_at_once}
use Rattle.ns_outside.specs.Notice.{Notice, datagram_refused, call_dropped}

-- the call of a datagram, or why it makes none
abbrev pub refused_as : Result Call Refusal → Result Call Refused
refused_as (Ok c) = Ok c
refused_as (Err (link fault)) = Err (Link fault)
refused_as (Err (view fault)) = Err (View fault)

abbrev pub call_in : List ℕ → Result Call Refused
call_in bytes = refused_as (datagram_call bytes)

-- what followed a call: no job, one that was put, one that the worker did itself since it could not be put, with the receipt
-- of its call, or one that could neither be put nor done
pub data Followed : Type 0 where
  nothing : Followed
  put : Job → Followed
  done_itself : Job → Receipt → Followed
  undone : Job → Followed

-- what became of a datagram: it was refused, dropped for want of memory, or called, with its receipt and what followed
pub data Turn : Type 0 where
  refused : Refused → Turn
  dropped : Turn
  called : Receipt → Followed → Turn

abbrev pub job_in : Followed → Option Job
job_in nothing = None
job_in (put job) = Some job
job_in (done_itself job own) = Some job
job_in (undone job) = Some job

-- the job that was put, and the receipt of a call that the worker made to do the job itself
abbrev pub put_in : Followed → List Job
put_in (put job) = job ∷ []
put_in _ = []

abbrev pub own_in : Followed → List Receipt
own_in (done_itself job own) = own ∷ []
own_in _ = []

-- a call by which the worker did a job itself is the job's
abbrev pub IsRight : Followed → Type 0
IsRight (done_itself job own) = own.entry.call ≡ call_at_once job
IsRight _ = Unit {0}

abbrev pub was_undone : Followed → Bool
was_undone (undone job) = true
was_undone _ = false

-- no job follows a reply at any time, or this one does at a time that the timer told
abbrev pub IsDue : (ℕ → Type 0) → ℕ → Reply → Option Job → Type 0
IsDue has_told window_ms reply None = (now : ℕ) → job_of reply now window_ms ≡ None
IsDue has_told window_ms reply (Some job) = (now : ℕ) × has_told now × (job_of reply now window_ms ≡ Some job)

-- a turn is right for its datagram: why it was refused; or the call was the datagram's, and what followed is the job of the
-- reply
abbrev pub IsTurn : (Notice → Type 0) → (ℕ → Type 0) → ℕ → List ℕ → Turn → Type 0
IsTurn has_heard has_told window_ms bytes (refused why) =
    (call_in bytes ≡ Err why) × has_heard (datagram_refused why)
IsTurn has_heard has_told window_ms bytes dropped = ((call : Call) × (call_in bytes ≡ Ok call)) × has_heard call_dropped
IsTurn has_heard has_told window_ms bytes (called r followed) =
    (call_in bytes ≡ Ok r.entry.call) × IsDue has_told window_ms r.entry.reply (job_in followed) × IsRight followed

abbrev pub was_refused : Turn → Bool
was_refused (refused why) = true
was_refused _ = false

abbrev pub was_dropped : Turn → Bool
was_dropped dropped = true
was_dropped _ = false

abbrev pub left_undone : Turn → Bool
left_undone (called r followed) = was_undone followed
left_undone _ = false

-- the receipts of a turn's calls; those of the calls that did a job; and the jobs that were put
abbrev pub receipts_of : Turn → List Receipt
receipts_of (called r followed) = r ∷ own_in followed
receipts_of _ = []

abbrev pub own_of : Turn → List Receipt
own_of (called r followed) = own_in followed
own_of _ = []

abbrev pub put_by : Turn → List Job
put_by (called r followed) = put_in followed
put_by _ = []

-- how many turns left a job undone: with K1 one, else none
abbrev pub undone_at : Option WorkerFault → ℕ
undone_at (Some NoMemory) = 1
undone_at _ = 0

-- what a worker did with the job that follows a reply
pub record Follows (net : Network) (output : Output) (has_heard : Notice → Type 0) (job : Job) (fault : Option WorkerFault) (before after : Effects) : Type 0 where
  pub followed : Followed
  pub job_is : job_in followed ≡ Some job
  pub right : IsRight followed
  pub undone : (if was_undone followed then 1 else 0) ≡ undone_at fault
  pub does : Does net output has_heard fault before after (own_in followed) (own_in followed) (put_in followed)

-- Each of these datagrams has had its turn, in order: the counts rise by what became of them, and what was called, put and
-- handed out is the turns'.
pub record Serves (net : Network) (output : Output) (has_heard : Notice → Type 0) (has_told : ℕ → Type 0) (window_ms : ℕ)
    (old new : Served) (before after : Effects) (datagrams : List (List ℕ)) : Type 0 where
  pub turns : List Turn
  pub each : AllZip (IsTurn has_heard has_told window_ms) datagrams turns
  pub read : new.read ≡ old.read + length datagrams
  pub refused : new.refused ≡ old.refused + count_by was_refused turns
  pub dropped : new.dropped ≡ old.dropped + count_by was_dropped turns
  pub undone : count_by left_undone turns ≡ undone_at new.fault
  pub does : Does net output has_heard new.fault before after (flat_map receipts_of turns) (flat_map own_of turns) (flat_map put_by turns)

-- the counts of a worker at its start
abbrev pub none_served : Served
none_served = record { read = 0; refused = 0; dropped = 0; fault = None }

-- the same with the datagrams that its source gave
pub record ServesAll (net : Network) (output : Output) (has_heard : Notice → Type 0) (has_told : ℕ → Type 0) (window_ms : ℕ)
    (old new : Option (Given (List ℕ))) (before after : Effects) (result : Served) : Type 0 where
  pub datagrams : List (List ℕ)
  pub gave : Gave (result.read ≡ 2 ^ 63) old new datagrams result.fault
  pub serves : Serves net output has_heard has_told window_ms none_served result before after datagrams
