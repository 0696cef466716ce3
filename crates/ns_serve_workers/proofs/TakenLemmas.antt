-- The jobs that a closer took of a list.
use Rattle.std.proofs.Common.{◌≡◌, ◌⊎◌, ℕ, ◌≤◌, Bool, true, false, List, [], ◌++◌, length, take, drop, take-append-drop, Option, None, Some, sym, ap, ◌∙◌, subst, inl, inr, arith}
use Rattle.std.specs.Option.{option_map_or}
use Rattle.std.proofs.lemmas.List.{length-map, length-take-le, take_all}
use Rattle.ns_outside.specs.declared.receipt.Receipt.{Receipt}
use Rattle.ns_outside.specs.declared.job.CloseJob.{CloseJob}
use Rattle.ns_outside.specs.declared.fault.WorkerFault.{WorkerFault}
use Rattle.ns_outside.specs.declared.fault.WorkerFault.TheVariants.{NoMemory, SourceFailed, SinkFailed}
use Rattle.ns_workers.specs.Closing.{AreClosed, Closes, calls_made, closing, closings}
use Rattle.ns_workers.specs.declared.listed.ListedJobs.{ListedJobs}
use Rattle.ns_outside.specs.Given.{Given, Gave}
use Rattle.ns_workers.specs.Listed.{jobs_given}

-- a list has given so many of its jobs
abbrev told : List CloseJob → ℕ → Bool → Bool → Option (Given CloseJob)
told jobs at ended broken = Some (record { jobs = take at jobs; ended = ended; broken = broken })

abbrev pub at_first : Option (Given CloseJob)
at_first = Some (record { jobs = []; ended = false; broken = false })

abbrev jobs_in : Option (Given CloseJob) → List CloseJob
jobs_in o = option_map_or (λ (g : Given CloseJob). g.jobs) o []

abbrev has_ended : Option (Given CloseJob) → Bool
has_ended o = option_map_or (λ (g : Given CloseJob). g.ended) o false

module _ (jobs : List CloseJob) (at : ℕ) (ended broken : Bool) (P : Type 0) (taken : List CloseJob) where
  given_are : (fault : Option WorkerFault) → Gave P at_first (told jobs at ended broken) taken fault → take at jobs ≡ taken
  given_are None (inl (full, is)) = ap jobs_in is
  given_are None (inr is) = ap jobs_in is
  given_are (Some SourceFailed) is = ap jobs_in is
  given_are (Some NoMemory) is = ap jobs_in is
  given_are (Some SinkFailed) is = ap jobs_in is

  given_all : Gave P at_first (told jobs at ended broken) taken None → P ⊎ (ended ≡ true)
  given_all (inl (full, is)) = inl full
  given_all (inr is) = inr (ap has_ended is)

-- what a closer did with the jobs of a list, by how far the list has come
took : (come : ℕ → Type 0) (limit : ℕ) (jobs : List CloseJob) (before after : ListedJobs CloseJob) (receipts : List Receipt) (fault : Option WorkerFault)
    → jobs_given before ≡ at_first → before.jobs.items ≡ jobs → Some after.jobs.items ≡ Some before.jobs.items
    → Closes come limit (jobs_given before) (jobs_given after) receipts fault
    → Closes come limit at_first (told jobs after.place.at after.place.ended after.place.broken) receipts fault
took come limit jobs before after receipts fault first are same closes =
    let now : after.jobs.items ≡ jobs = ap (λ o. option_map_or (λ (l : List CloseJob). l) o []) same ∙ are in
    subst (λ l. Closes come limit at_first (told l after.place.at after.place.ended after.place.broken) receipts fault) now
    (subst (λ o. Closes come limit o (jobs_given after) receipts fault) first closes)

-- it took the first of them, and closed these windows
pub takes_first : (come : ℕ → Type 0) (limit : ℕ) (jobs : List CloseJob) (before after : ListedJobs CloseJob) (receipts : List Receipt) (fault : Option WorkerFault)
    → jobs_given before ≡ at_first → before.jobs.items ≡ jobs → Some after.jobs.items ≡ Some before.jobs.items
    → Closes come limit (jobs_given before) (jobs_given after) receipts fault
    → (taken rest : List CloseJob) × (jobs ≡ taken ++ rest) × AreClosed fault receipts taken
takes_first come limit jobs before after receipts fault first are same closes =
    let at : ℕ = after.place.at in
    let so = took come limit jobs before after receipts fault first are same closes in
    let given = given_are jobs at after.place.ended after.place.broken (length receipts ≡ limit) so.taken fault so.gave in
    (take at jobs, drop at jobs, sym (take-append-drop at jobs), subst (AreClosed fault receipts) (sym given) so.closed)

-- without a fault it took all, where it may take as many
pub takes_all : (come : ℕ → Type 0) (limit : ℕ) (jobs : List CloseJob) (before after : ListedJobs CloseJob) (receipts : List Receipt) (fault : Option WorkerFault)
    → jobs_given before ≡ at_first → before.jobs.items ≡ jobs → Some after.jobs.items ≡ Some before.jobs.items
    → after.place.at ≤ length jobs → (after.place.ended ≡ true → after.place.at ≡ length jobs) → limit ≡ length jobs
    → fault ≡ None → Closes come limit (jobs_given before) (jobs_given after) receipts fault
    → calls_made receipts ≡ closings jobs
takes_all come limit jobs before after receipts fault first are same within last enough fine closes =
    let at : ℕ = after.place.at in
    let so = took come limit jobs before after receipts None first are same (subst (Closes come limit (jobs_given before) (jobs_given after) receipts) fine closes) in
    let given : take at jobs ≡ so.taken = given_are jobs at after.place.ended after.place.broken (length receipts ≡ limit) so.taken None so.gave in
    let calls : calls_made receipts ≡ closings so.taken = so.closed in
    let made : length (calls_made receipts) ≡ length receipts = length-map receipts (λ (r : Receipt). r.entry.call) in
    let counted : length (closings so.taken) ≡ length so.taken = length-map so.taken closing in
    let long : length (take at jobs) ≡ at = length-take-le at jobs within in
    let as_many : length (calls_made receipts) ≡ length (closings so.taken) = ap length calls in
    let as_given : length (take at jobs) ≡ length so.taken = ap length given in
    let all : at ≡ length jobs = elim (given_all jobs at after.place.ended after.place.broken (length receipts ≡ limit) so.taken so.gave) [
      | inl full ↦ omega (arith, full, enough, made, counted, as_many, long, as_given)
      | inr is ↦ last is
    ] in
    calls ∙ ap closings (sym given ∙ take_all at jobs (omega (arith, all)))
