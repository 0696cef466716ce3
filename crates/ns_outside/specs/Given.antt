-- What a source has given, and how it has ended.
use Rattle.std.specs.Prelude.{◌≡◌, ◌⊎◌, Bool, true, List, [], ◌∷◌, ◌++◌, Option, None, Some, IfSome}
use Rattle.ns_outside.specs.declared.traits.Next.{Next}
use Rattle.ns_outside.specs.declared.traits.Next.TheVariants.{Job, End, Failed}
use Rattle.ns_outside.specs.declared.fault.WorkerFault.{WorkerFault}
use Rattle.ns_outside.specs.declared.fault.WorkerFault.TheVariants.{SourceFailed}

-- the jobs given so far, and whether it has answered that there are no more, or that it failed
pub record Given (J : Type 0) : Type 0 where
  pub jobs : List J
  pub ended : Bool
  pub broken : Bool

-- the same after these jobs
abbrev pub with_jobs : {J : Type 0} → Given J → List J → Given J
with_jobs g more = record { jobs = g.jobs ++ more; ended = g.ended; broken = g.broken }

abbrev pub with_end : {J : Type 0} → Given J → Given J
with_end g = record { jobs = g.jobs; ended = true; broken = g.broken }

abbrev pub with_failure : {J : Type 0} → Given J → Given J
with_failure g = record { jobs = g.jobs; ended = g.ended; broken = true }

-- the same after an answer
abbrev pub after_next : {J : Type 0} → Given J → Next J → Given J
after_next g (Job j) = with_jobs g (j ∷ [])
after_next g End = with_end g
after_next g Failed = with_failure g

-- what is told grows by an answer
abbrev pub Takes : {J : Type 0} → Option (Given J) → Option (Given J) → Next J → Type 0
Takes old new next = IfSome old (λ g. new ≡ Some (after_next g next))

-- what a source that gave these jobs tells once its worker has ended. Without a fault the source has ended, or the worker
-- had done all that it may; with K2 the source has failed
abbrev pub Gave : {J : Type 0} → Type 0 → Option (Given J) → Option (Given J) → List J → Option WorkerFault → Type 0
Gave IsFull old new jobs None =
    IfSome old (λ g. (IsFull × (new ≡ Some (with_jobs g jobs))) ⊎ (new ≡ Some (with_end (with_jobs g jobs))))
Gave IsFull old new jobs (Some SourceFailed) = IfSome old (λ g. new ≡ Some (with_failure (with_jobs g jobs)))
Gave IsFull old new jobs (Some _) = IfSome old (λ g. new ≡ Some (with_jobs g jobs))
