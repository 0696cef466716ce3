-- What workers do to what they are given.
use Rattle.std.specs.Prelude.{ℕ, ◌≢◌, All, List, Option, Some}
use Rattle.ns_roster.specs.Network.{Network}
use Rattle.ns_calls.specs.declared.answer.Downlink.{Downlink}
use Rattle.ns_output.specs.declared.output.Output.{Output}
use Rattle.ns_outside.specs.declared.receipt.Receipt.{Receipt}
use Rattle.ns_outside.specs.declared.job.Job.{Job}
use Rattle.ns_outside.specs.declared.fault.WorkerFault.{WorkerFault}
use Rattle.ns_outside.specs.declared.fault.WorkerFault.TheVariants.{SinkFailed}
use Rattle.ns_workers.specs.Closing.{AreAnswered}
use Rattle.ns_workers.specs.Counts.{RisesByReceipts}
use Rattle.ns_outside.specs.Grown.{Grows}
use Rattle.ns_workers.specs.Lines.{AppendsLines, AppendsLinesFront, downlinks_of}
use Rattle.ns_outside.specs.Notice.{Notice, call_replied}

-- the counts of a worker's pass, the jobs that it put, the downlinks that it gave out, and the bytes that its sink has
pub record Effects : Type 0 where
  pub pass : List ℕ
  pub jobs : Option (List Job)
  pub downlinks : Option (List Downlink)
  pub text : Option (List ℕ)

abbrev pub effects : List ℕ → Option (List Job) → Option (List Downlink) → Option (List ℕ) → Effects
effects pass jobs downlinks text = record { pass = pass; jobs = jobs; downlinks = downlinks; text = text }

-- Calls were made with these receipts, each of which the monitor was told, and by which the pass rises. These jobs were put.
-- What goes out is that of the receipts in `own`, the lines as the output asks, as far as the sink takes them.
pub record Does (net : Network) (output : Output) (has_heard : Notice → Type 0) (fault : Option WorkerFault) (old new : Effects)
    (receipts own : List Receipt) (jobs : List Job) : Type 0 where
  pub answered : AreAnswered net receipts
  pub told : All (λ r. has_heard (call_replied r)) receipts
  pub counted : RisesByReceipts old.pass new.pass receipts
  pub put : Grows old.jobs new.jobs jobs
  pub down : Grows old.downlinks new.downlinks (downlinks_of own)
  pub text : fault ≢ Some SinkFailed → AppendsLines output old.text new.text own
  pub front : AppendsLinesFront output old.text new.text own
