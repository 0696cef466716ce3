-- What a join worker has done, turn by turn.
use Rattle.std.proofs.Common.{◌≡◌, ℕ, ◌+◌, ◌^◌, ◌≤◌, false, List, [], ◌∷◌, ◌++◌, length, Option, None, Some, Result, Ok, Err, IfOk, inl, inr, refl, sym, ap, ◌∙◌, subst, le_antisymm, length-append}
use Rattle.std.specs.List.{AllZip}
use Rattle.std.specs.Result.{is_err}
use Rattle.std.specs.declared.alloc.AllocError.{AllocError}
use Rattle.ns_types.specs.declared.ticket.Ticket.{Ticket}
use Rattle.ns_roster.specs.Network.{Network}
use Rattle.ns_calls.specs.declared.answer.Downlink.{Downlink}
use Rattle.ns_calls.specs.declared.call.Call.TheVariants.{JoinReply}
use Rattle.ns_calls.specs.declared.call.Outcome.{Outcome}
use Rattle.ns_calls.specs.declared.call.Outcome.TheVariants as outcome
use Rattle.ns_output.specs.declared.output.Output.TheVariants.{Lines}
use Rattle.ns_outside.specs.declared.receipt.Receipt.{Receipt}
use Rattle.ns_outside.specs.declared.job.AskJob.{AskJob}
use Rattle.ns_workers.specs.declared.join.Joined.{Joined}
use Rattle.ns_outside.specs.declared.traits.Next.TheVariants.{Job, End, Failed}
use Rattle.ns_outside.specs.declared.fault.WorkerFault.{WorkerFault}
use Rattle.ns_outside.specs.declared.fault.WorkerFault.TheVariants.{NoMemory, SourceFailed}
use Rattle.ns_outside.specs.Given.{Given, Takes}
use Rattle.ns_workers.specs.Answering.{IsOutcome, IsReply, Answers}
use Rattle.ns_workers.specs.Job.{IsTooOld}
use Rattle.ns_workers.specs.Effects.{Effects, Does, effects}
use Rattle.ns_outside.specs.Notice.{Notice, ticket_stale}
use Rattle.ns_workers.proofs.Doings.{zip_more, does_none, does_both, does_with}
use Rattle.ns_workers.proofs.Sources.{Holds, holds_none, holds_more, gave_end, gave_full, gave_broken}

-- the outcome for a ticket that is too old, and for one that is not
pub outcome_stale : (h : Notice → Type 0) (t : ℕ → Type 0) (o : Ticket → Outcome → Type 0) (j : AskJob) (now : ℕ)
    → t now → IsTooOld j now → h (ticket_stale j.ticket) → IsOutcome h t o j outcome.Failed
outcome_stale h t o j now told old heard = (now, told, inl (old, refl, heard))

pub outcome_asked : (h : Notice → Type 0) (t : ℕ → Type 0) (o : Ticket → Outcome → Type 0) (j : AskJob) (now : ℕ) (outcome : Outcome)
    → t now → ¬ (IsTooOld j now) → o j.ticket outcome → IsOutcome h t o j outcome
outcome_asked h t o j now outcome told young asked = (now, told, inr (young, asked))

pub reply_of : (o : AskJob → Outcome → Type 0) (j : AskJob) (r : Receipt) (outcome : Outcome) → r.entry.call ≡ JoinReply j.ticket outcome → o j outcome → IsReply o j r
reply_of o j r outcome call is = (outcome, call, is)

-- so far these tickets were answered
pub record Answered (net : Network) (h : Notice → Type 0) (is_outcome : AskJob → Outcome → Type 0)
    (old now : Option (Given AskJob)) (before after : Effects) (answered : ℕ) : Type 0 where
  pub taken : List AskJob
  pub receipts : List Receipt
  pub holds : Holds old now taken
  pub count : answered ≡ length receipts
  pub replies : AllZip (IsReply is_outcome) taken receipts
  pub does : Does net Lines h None before after receipts receipts []

pub answered_first : (net : Network) (h : Notice → Type 0) (o : AskJob → Outcome → Type 0) (old : Option (Given AskJob)) (e : Effects) → Answered net h o old old e e 0
answered_first net h o old e = record {
  taken = [];
  receipts = [];
  holds = holds_none old;
  count = refl;
  replies = tt;
  does = does_none net Lines h None e;
}

answered_one : (net : Network) (h : Notice → Type 0) (o : AskJob → Outcome → Type 0) (old now new : Option (Given AskJob)) (e f g : Effects) (n : ℕ) (j : AskJob) (r : Receipt)
    → Answered net h o old now e f n → Takes now new (Job j) → IsReply o j r → Does net Lines h None f g (r ∷ []) (r ∷ []) [] → Answered net h o old new e g (n + 1)
answered_one net h o old now new e f g n j r so takes reply did = record {
  taken = so.taken ++ j ∷ [];
  receipts = so.receipts ++ r ∷ [];
  holds = holds_more old now new so.taken j so.holds takes;
  count = ap (λ k. k + 1) so.count ∙ sym (length-append so.receipts (r ∷ []));
  replies = zip_more (IsReply o) so.taken so.receipts j r so.replies reply;
  does = does_both net Lines h None e f g so.receipts (r ∷ []) so.receipts (r ∷ []) [] [] so.does did;
}

pub answered_next : (net : Network) (h : Notice → Type 0) (o : AskJob → Outcome → Type 0) (old now new : Option (Given AskJob)) (e f g : Effects) (n : ℕ) (j : AskJob) (r : Result Receipt AllocError)
    → is_err r ≡ false → Answered net h o old now e f n → Takes now new (Job j) → IfOk r (λ q. IsReply o j q)
    → IfOk r (λ q. Does net Lines h None f g (q ∷ []) (q ∷ []) []) → Answered net h o old new e g (n + 1)
answered_next net h o old now new e f g n j (Ok q) well so takes reply did = answered_one net h o old now new e f g n j q so takes reply did
answered_next net h o old now new e f g n j (Err _) well so takes reply did = absurd cc

-- where there is no fault, it can be named so
with_no_fault : (net : Network) (h : Notice → Type 0) (o : AskJob → Outcome → Type 0) (old new : Option (Given AskJob)) (e f : Effects) (s : Joined)
    → s.fault ≡ None → Answers net h o old new e f (record { answered = s.answered; fault = None }) → Answers net h o old new e f s
with_no_fault net h o old new e f s none all = subst (λ (w : Option WorkerFault). Answers net h o old new e f (record { answered = s.answered; fault = w })) (sym none) all

pub answers_end : (net : Network) (h : Notice → Type 0) (o : AskJob → Outcome → Type 0) (old now new : Option (Given AskJob)) (e f : Effects) (s : Joined)
    → s.fault ≡ None → Answered net h o old now e f s.answered → Takes now new End → Answers net h o old new e f s
answers_end net h o old now new e f s none so takes =
    with_no_fault net h o old new e f s none (record {
      taken = so.taken;
      receipts = so.receipts;
      gave = gave_end (s.answered ≡ 2 ^ 63) old now new so.taken so.holds takes;
      count = so.count;
      replies = so.replies;
      does = so.does;
    })

pub answers_full : (net : Network) (h : Notice → Type 0) (o : AskJob → Outcome → Type 0) (old now : Option (Given AskJob)) (e f : Effects) (s : Joined)
    → s.fault ≡ None → Answered net h o old now e f s.answered → s.answered ≤ 2 ^ 63 → 2 ^ 63 ≤ s.answered → Answers net h o old now e f s
answers_full net h o old now e f s none so few many =
    with_no_fault net h o old now e f s none (record {
      taken = so.taken;
      receipts = so.receipts;
      gave = gave_full (s.answered ≡ 2 ^ 63) old now so.taken so.holds (le_antisymm few many);
      count = so.count;
      replies = so.replies;
      does = so.does;
    })

pub answers_broken : (net : Network) (h : Notice → Type 0) (o : AskJob → Outcome → Type 0) (old now new : Option (Given AskJob)) (e f : Effects) (n : ℕ)
    → Answered net h o old now e f n → Takes now new Failed → Answers net h o old new e f (record { answered = n; fault = Some SourceFailed })
answers_broken net h o old now new e f n so takes = record {
  taken = so.taken;
  receipts = so.receipts;
  gave = gave_broken (n ≡ 2 ^ 63) old now new so.taken so.holds takes;
  count = so.count;
  replies = so.replies;
  does = does_with net Lines h (Some SourceFailed) e f so.receipts so.receipts [] so.does;
}

pub answers_refused : (net : Network) (h : Notice → Type 0) (o : AskJob → Outcome → Type 0) (old now new : Option (Given AskJob)) (e f : Effects) (n : ℕ) (j : AskJob)
    → Answered net h o old now e f n → Takes now new (Job j) → Answers net h o old new e f (record { answered = n; fault = Some NoMemory })
answers_refused net h o old now new e f n j so takes = record {
  taken = so.taken ++ j ∷ [];
  receipts = so.receipts;
  gave = holds_more old now new so.taken j so.holds takes;
  count = so.count;
  replies = (so.taken, j, refl, so.replies);
  does = does_with net Lines h (Some NoMemory) e f so.receipts so.receipts [] so.does;
}

-- the same of a call that has changed nothing
pub answers_unchanged : (net : Network) (h : Notice → Type 0) (o : AskJob → Outcome → Type 0) (old now new : Option (Given AskJob)) (e : Effects)
    (pass pass' : List ℕ) (down down' : Option (List Downlink)) (n : ℕ) (j : AskJob)
    → Answered net h o old now e (effects pass None down None) n → Takes now new (Job j) → pass' ≡ pass → down' ≡ down
    → Answers net h o old new e (effects pass' None down' None) (record { answered = n; fault = Some NoMemory })
answers_unchanged net h o old now new e pass pass' down down' n j so takes same same' =
    let end : Joined = record { answered = n; fault = Some NoMemory } in
    subst (λ p. Answers net h o old new e (effects p None down' None) end) (sym same)
    (subst (λ d. Answers net h o old new e (effects pass None d None) end) (sym same')
    (answers_refused net h o old now new e (effects pass None down None) n j so takes))
