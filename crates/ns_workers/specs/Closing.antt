-- What a closer has done.
use Rattle.std.specs.Prelude.{ℕ, ◌≡◌, ◌⊎◌, All, List, [], ◌∷◌, ◌++◌, length, map, Option, Some}
use Rattle.ns_calls.specs.declared.call.Call.{Call}
use Rattle.ns_calls.specs.declared.call.Call.TheVariants.{Close}
use Rattle.ns_calls.specs.Shards.{shard_of_call}
use Rattle.ns_roster.specs.Network.{Network}
use Rattle.ns_outside.specs.declared.receipt.Receipt.{Receipt}
use Rattle.ns_outside.specs.Answered.{HasHistory}
use Rattle.ns_outside.specs.declared.job.CloseJob.{CloseJob}
use Rattle.ns_outside.specs.declared.fault.WorkerFault.{WorkerFault}
use Rattle.ns_outside.specs.declared.fault.WorkerFault.TheVariants.{NoMemory}
use Rattle.ns_outside.specs.Given.{Given, Gave}
use Rattle.ns_workers.specs.declared.closer.Ended.{Ended}

-- the call of a job: the closing of its window
abbrev pub closing : CloseJob → Call
closing job = Close job.name

-- the receipt is of the shard of its call, and tells the plain server's answer after a history of that shard
pub record HasAnswer (net : Network) (r : Receipt) : Type 0 where
  pub shard : r.shard ≡ shard_of_call r.entry.call
  pub history : HasHistory net (shard_of_call r.entry.call) r

-- each of the receipts does
pub record AreAnswered (net : Network) (receipts : List Receipt) : Type 0 where
  pub each : All (λ r. HasAnswer net r) receipts

-- the calls of receipts, and those of jobs
abbrev pub calls_made : List Receipt → List Call
calls_made receipts = map (λ r. r.entry.call) receipts

abbrev pub closings : List CloseJob → List Call
closings jobs = map closing jobs

-- the receipts are of the jobs' closings; after K1 perhaps of all but the last job's
abbrev pub AreClosed : Option WorkerFault → List Receipt → List CloseJob → Type 0
AreClosed (Some NoMemory) receipts jobs =
    (calls_made receipts ≡ closings jobs) ⊎ ((j : CloseJob) × (closings jobs ≡ calls_made receipts ++ closing j ∷ []))
AreClosed _ receipts jobs = calls_made receipts ≡ closings jobs

-- what a closer did with the jobs that it took: the time of each had come, and the receipts are of their closings
pub record Closes (has_come : ℕ → Type 0) (limit : ℕ) (old new : Option (Given CloseJob))
    (receipts : List Receipt) (fault : Option WorkerFault) : Type 0 where
  pub taken : List CloseJob
  pub gave : Gave (length receipts ≡ limit) old new taken fault
  pub waited : All (λ j. has_come j.due) taken
  pub closed : AreClosed fault receipts taken

-- a closer ended with K1 and no receipts: it took no job, and made no call
pub record NothingDone (old new : Option (Given CloseJob)) (before after : List ℕ) (ended : Ended) : Type 0 where
  pub no_memory : ended.fault ≡ Some NoMemory
  pub no_receipts : ended.receipts.items ≡ []
  pub no_job : new ≡ old
  pub no_call : after ≡ before
