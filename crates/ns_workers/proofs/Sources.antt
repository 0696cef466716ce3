-- What a worker knows of its source, turn by turn.
use Rattle.std.proofs.Common.{◌≡◌, ◌≢◌, List, [], ◌∷◌, ◌++◌, Option, None, Some, inl, inr, refl, sym, ap, ◌∙◌, subst, append_assoc, append-nil}
use Rattle.std.specs.Prelude.{IfSome}
use Rattle.ns_outside.specs.declared.fault.WorkerFault.{WorkerFault}
use Rattle.ns_outside.specs.declared.fault.WorkerFault.TheVariants.{NoMemory, SourceFailed, SinkFailed}
use Rattle.ns_outside.specs.Given.{Given, Gave, with_jobs, with_end, with_failure}

-- these jobs were given
abbrev pub Holds : {J : Type 0} → Option (Given J) → Option (Given J) → List J → Type 0
Holds old now jobs = IfSome old (λ g. now ≡ Some (with_jobs g jobs))

-- what is told then
then_is : {J : Type 0} (f : Given J → Given J) (now new : Option (Given J)) (g : Given J) → now ≡ Some g → IfSome now (λ g. new ≡ Some (f g)) → new ≡ Some (f g)
then_is f now new g is told = subst (λ o. IfSome o (λ g. new ≡ Some (f g))) is told

pub holds_none : {J : Type 0} (old : Option (Given J)) → Holds old old []
holds_none None = tt
holds_none (Some g) = ap (λ l. Some (record { jobs = l; ended = g.ended; broken = g.broken })) (sym (append-nil g.jobs))

pub holds_more : {J : Type 0} (old now new : Option (Given J)) (jobs : List J) (job : J) → Holds old now jobs → IfSome now (λ g. new ≡ Some (with_jobs g (job ∷ []))) → Holds old new (jobs ++ job ∷ [])
holds_more None now new jobs job holds told = tt
holds_more (Some g) now new jobs job holds told =
    then_is (λ h. with_jobs h (job ∷ [])) now new (with_jobs g jobs) holds told
    ∙ ap (λ l. Some (record { jobs = l; ended = g.ended; broken = g.broken })) (append_assoc g.jobs jobs (job ∷ []))

pub holds_same : {J : Type 0} (old now new : Option (Given J)) (jobs : List J) → Holds old now jobs → IfSome now (λ g. new ≡ Some g) → Holds old new jobs
holds_same None now new jobs holds told = tt
holds_same (Some g) now new jobs holds told = then_is (λ h. h) now new (with_jobs g jobs) holds told

pub gave_end : {J : Type 0} (P : Type 0) (old now new : Option (Given J)) (jobs : List J) → Holds old now jobs → IfSome now (λ g. new ≡ Some (with_end g)) → Gave P old new jobs None
gave_end P None now new jobs holds told = tt
gave_end P (Some g) now new jobs holds told = inr (then_is with_end now new (with_jobs g jobs) holds told)

pub gave_full : {J : Type 0} (P : Type 0) (old now : Option (Given J)) (jobs : List J) → Holds old now jobs → P → Gave P old now jobs None
gave_full P None now jobs holds full = tt
gave_full P (Some g) now jobs holds full = inl (full, holds)

pub gave_broken : {J : Type 0} (P : Type 0) (old now new : Option (Given J)) (jobs : List J) → Holds old now jobs → IfSome now (λ g. new ≡ Some (with_failure g)) → Gave P old new jobs (Some SourceFailed)
gave_broken P None now new jobs holds told = tt
gave_broken P (Some g) now new jobs holds told = then_is with_failure now new (with_jobs g jobs) holds told

pub gave_fault : {J : Type 0} (P : Type 0) (old now : Option (Given J)) (jobs : List J) (fault : WorkerFault) → Holds old now jobs → fault ≢ SourceFailed → Gave P old now jobs (Some fault)
gave_fault P old now jobs NoMemory holds other = holds
gave_fault P old now jobs SourceFailed holds other = absurd (other refl)
gave_fault P old now jobs SinkFailed holds other = holds
