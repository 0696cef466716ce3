-- What a join worker does.
use Rattle.std.specs.Prelude.{ℕ, ◌≡◌, ◌^◌, ◌⊎◌, List, [], ◌∷◌, ◌++◌, length, Option, Some}
use Rattle.std.specs.List.{AllZip}
use Rattle.ns_types.specs.declared.ticket.Ticket.{Ticket}
use Rattle.ns_calls.specs.declared.call.Call.TheVariants.{JoinReply}
use Rattle.ns_calls.specs.declared.call.Outcome.{Outcome}
use Rattle.ns_calls.specs.declared.call.Outcome.TheVariants.{Failed}
use Rattle.ns_roster.specs.Network.{Network}
use Rattle.ns_output.specs.declared.output.Output.TheVariants.{Lines}
use Rattle.ns_outside.specs.declared.receipt.Receipt.{Receipt}
use Rattle.ns_outside.specs.declared.job.AskJob.{AskJob}
use Rattle.ns_workers.specs.declared.join.Joined.{Joined}
use Rattle.ns_outside.specs.declared.fault.WorkerFault.{WorkerFault}
use Rattle.ns_outside.specs.declared.fault.WorkerFault.TheVariants.{NoMemory}
use Rattle.ns_workers.specs.Effects.{Effects, Does}
use Rattle.ns_outside.specs.Given.{Given, Gave}
use Rattle.ns_workers.specs.Job.{IsTooOld}
use Rattle.ns_outside.specs.Notice.{Notice, ticket_stale}

-- at a time that the timer told, a ticket that was too old was answered as failed, and the monitor was told; another one by
-- an outcome of asking about it
abbrev pub IsOutcome : (Notice → Type 0) → (ℕ → Type 0) → (Ticket → Outcome → Type 0) → AskJob → Outcome → Type 0
IsOutcome has_heard has_told HasOutcome job outcome =
    (now : ℕ) × has_told now
    × ((IsTooOld job now × (outcome ≡ Failed) × has_heard (ticket_stale job.ticket))
    ⊎ ((¬ (IsTooOld job now)) × HasOutcome job.ticket outcome))

-- the receipt is of the answer to the job's ticket
abbrev pub IsReply : (AskJob → Outcome → Type 0) → AskJob → Receipt → Type 0
IsReply IsOutcome job r = (outcome : Outcome) × (r.entry.call ≡ JoinReply job.ticket outcome) × IsOutcome job outcome

-- the receipts are of the answers to the jobs' tickets, in order; after K1 of all but the last job's
abbrev pub AreReplies : (AskJob → Receipt → Type 0) → Option WorkerFault → List AskJob → List Receipt → Type 0
AreReplies IsReply (Some NoMemory) jobs receipts =
    (before : List AskJob) × (last : AskJob) × (jobs ≡ before ++ last ∷ []) × AllZip IsReply before receipts
AreReplies IsReply _ jobs receipts = AllZip IsReply jobs receipts

-- what a join worker did with the jobs that it took
pub record Answers (net : Network) (has_heard : Notice → Type 0) (IsOutcome : AskJob → Outcome → Type 0)
    (old new : Option (Given AskJob)) (before after : Effects) (joined : Joined) : Type 0 where
  pub taken : List AskJob
  pub receipts : List Receipt
  pub gave : Gave (joined.answered ≡ 2 ^ 63) old new taken joined.fault
  pub count : joined.answered ≡ length receipts
  pub replies : AreReplies (IsReply IsOutcome) joined.fault taken receipts
  pub does : Does net Lines has_heard joined.fault before after receipts receipts []
