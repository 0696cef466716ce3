-- What a closer has done, turn by turn.
use Rattle.std.proofs.Common.{◌≡◌, ◌≢◌, ℕ, List, [], ◌∷◌, ◌++◌, length, take, ◌+◌, ◌<◌, ◌≤◌, Option, None, Some, inl, inr, refl, sym, ap, ◌∙◌, subst, zero-le, le_antisymm, arith}
use Rattle.std.specs.Prelude.{All, slice_set}
use Rattle.std.proofs.lemmas.List.{map-append, length-take-le, take_more_set}
use Rattle.std.proofs.lemmas.List.Elements.{All-nil, All-push}
use Rattle.ns_roster.specs.Network.{Network}
use Rattle.ns_output.specs.declared.output.Output.{Output}
use Rattle.ns_outside.specs.declared.receipt.Receipt.{Receipt}
use Rattle.ns_outside.specs.declared.job.CloseJob.{CloseJob}
use Rattle.ns_outside.specs.declared.traits.Next.TheVariants.{Job, End, Failed}
use Rattle.ns_outside.specs.declared.fault.WorkerFault.{WorkerFault}
use Rattle.ns_outside.specs.declared.fault.WorkerFault.TheVariants.{NoMemory, SourceFailed, SinkFailed}
use Rattle.ns_outside.specs.Given.{Given, Takes}
use Rattle.ns_outside.specs.Notice.{Notice}
use Rattle.ns_workers.specs.Closing.{closing, calls_made, closings, Closes}
use Rattle.ns_workers.specs.Closed.{ClosesOne, ClosesAll}
use Rattle.ns_workers.specs.Effects.{Effects, Does}
use Rattle.ns_workers.proofs.Doings.{does_none, does_both, does_with}
use Rattle.ns_workers.proofs.Sources.{Holds, holds_none, holds_more, gave_end, gave_full, gave_broken}

-- ---- a place of a list

-- what is put at a place comes behind those before it
pub put_behind : {X : Type 0} (xs ys : List X) (n : ℕ) (y : X) → take n ys ≡ take n xs → n < length ys → take (n + 1) (slice_set ys n y) ≡ take n xs ++ y ∷ []
put_behind {X} xs ys n y same within = take_more_set ys n y within ∙ ap (λ (l : List X). l ++ y ∷ []) same

-- ---- jobs after jobs

-- so far these jobs were taken, waited for and closed, and what goes out with the receipts has gone out
pub record Closed (net : Network) (out : Output) (h : Notice → Type 0) (c : ℕ → Type 0) (old now : Option (Given CloseJob)) (before after : Effects) (receipts : List Receipt) : Type 0 where
  pub taken : List CloseJob
  pub holds : Holds old now taken
  pub waited : All (λ j. c j.due) taken
  pub closed : calls_made receipts ≡ closings taken
  pub does : Does net out h None before after receipts receipts []

pub closed_none : (net : Network) (out : Output) (h : Notice → Type 0) (c : ℕ → Type 0) (old : Option (Given CloseJob)) (e : Effects) → Closed net out h c old old e e []
closed_none net out h c old e = record {
  taken = [];
  holds = holds_none old;
  waited = All-nil (λ (j : CloseJob). c j.due);
  closed = refl;
  does = does_none net out h None e;
}

-- so far none was closed
pub closed_begun : (net : Network) (out : Output) (h : Notice → Type 0) (c : ℕ → Type 0) (old : Option (Given CloseJob)) (e : Effects) (count : ℕ) (rs : List Receipt) → count ≡ 0
    → Closed net out h c old old e e (take count rs)
closed_begun net out h c old e count rs none = subst (λ n. Closed net out h c old old e e (take n rs)) (sym none) (closed_none net out h c old e)

-- none so far are few enough
pub none_yet : (count n : ℕ) → count ≡ 0 → count ≤ n
none_yet count n none = subst (λ k. k ≤ n) (sym none) zero-le

pub one_more_fits : (count count' limit : ℕ) → count < limit → count' ≡ count + 1 → count' ≤ limit
one_more_fits count count' limit few more = omega (arith, few, more)

-- the calls of one more receipt are the closings of one more job
one_more : (rs : List Receipt) (r : Receipt) (js : List CloseJob) (j : CloseJob) → calls_made rs ≡ closings js → r.entry.call ≡ closing j → calls_made (rs ++ r ∷ []) ≡ closings (js ++ j ∷ [])
one_more rs r js j so call =
    map-append (λ (q : Receipt). q.entry.call) rs (r ∷ []) ∙ ap (λ l. l ++ r.entry.call ∷ []) so
    ∙ ap (λ n. closings js ++ n ∷ []) call ∙ sym (map-append closing js (j ∷ []))

pub closed_more : (net : Network) (out : Output) (h : Notice → Type 0) (c : ℕ → Type 0) (old now new : Option (Given CloseJob)) (e f g : Effects) (rs rs' : List Receipt) (j : CloseJob)
    (fault : Option WorkerFault) → fault ≡ None → Closed net out h c old now e f rs → Takes now new (Job j) → c j.due → ClosesOne net out h j fault f g rs rs' → Closed net out h c old new e g rs'
closed_more net out h c old now new e f g rs rs' j fault none so takes come one =
    let (r, is, call, did) = subst (λ o. ClosesOne net out h j o f g rs rs') none one in
    subst (λ l. Closed net out h c old new e g l) (sym is) (record {
      taken = so.taken ++ j ∷ [];
      holds = holds_more old now new so.taken j so.holds takes;
      waited = All-push (λ (j : CloseJob). c j.due) so.taken j so.waited come;
      closed = one_more rs r so.taken j so.closed call;
      does = does_both net out h None e f g rs (r ∷ []) rs (r ∷ []) [] [] so.does did;
    })

pub closes_end : (net : Network) (out : Output) (h : Notice → Type 0) (c : ℕ → Type 0) (limit : ℕ) (old now new : Option (Given CloseJob)) (e f : Effects) (rs : List Receipt)
    → Closed net out h c old now e f rs → Takes now new End → ClosesAll net out h c limit old new e f rs None
closes_end net out h c limit old now new e f rs so takes = record {
  closes = record {
    taken = so.taken;
    gave = gave_end (length rs ≡ limit) old now new so.taken so.holds takes;
    waited = so.waited;
    closed = so.closed;
  };
  does = so.does;
}

pub closes_full : (net : Network) (out : Output) (h : Notice → Type 0) (c : ℕ → Type 0) (limit : ℕ) (old now : Option (Given CloseJob)) (e f : Effects) (count : ℕ) (rs : List Receipt)
    → Closed net out h c old now e f (take count rs) → count ≤ length rs → count ≤ limit → limit ≤ count → ClosesAll net out h c limit old now e f (take count rs) None
closes_full net out h c limit old now e f count rs so within few many =
    let all : length (take count rs) ≡ limit = length-take-le count rs within ∙ le_antisymm few many in
    record {
      closes = record {
        taken = so.taken;
        gave = gave_full (length (take count rs) ≡ limit) old now so.taken so.holds all;
        waited = so.waited;
        closed = so.closed;
      };
      does = so.does;
    }

pub closes_broken : (net : Network) (out : Output) (h : Notice → Type 0) (c : ℕ → Type 0) (limit : ℕ) (old now new : Option (Given CloseJob)) (e f : Effects) (rs : List Receipt)
    → Closed net out h c old now e f rs → Takes now new Failed → ClosesAll net out h c limit old new e f rs (Some SourceFailed)
closes_broken net out h c limit old now new e f rs so takes = record {
  closes = record {
    taken = so.taken;
    gave = gave_broken (length rs ≡ limit) old now new so.taken so.holds takes;
    waited = so.waited;
    closed = so.closed;
  };
  does = does_with net out h (Some SourceFailed) e f rs rs [] so.does;
}

-- the same of receipts that are these
pub closes_within : (net : Network) (out : Output) (h : Notice → Type 0) (c : ℕ → Type 0) (limit : ℕ) (old new : Option (Given CloseJob)) (e f : Effects) (rs rs' : List Receipt) (fault : Option WorkerFault)
    → rs' ≡ rs → ClosesAll net out h c limit old new e f rs fault → ClosesAll net out h c limit old new e f rs' fault
closes_within net out h c limit old new e f rs rs' fault same all = subst (λ l. ClosesAll net out h c limit old new e f l fault) (sym same) all

-- nothing was done for want of memory
pub closes_before : (c : ℕ → Type 0) (limit : ℕ) (old : Option (Given CloseJob)) → Closes c limit old old [] (Some NoMemory)
closes_before c limit old = record { taken = []; gave = holds_none old; waited = All-nil (λ (j : CloseJob). c j.due); closed = inl refl }

-- the last job's closing was refused memory, or what goes out with it could not be written
pub closes_fault : (net : Network) (out : Output) (h : Notice → Type 0) (c : ℕ → Type 0) (limit : ℕ) (old now new : Option (Given CloseJob)) (e f g : Effects) (rs rs' : List Receipt) (j : CloseJob)
    (fault : Option WorkerFault) → fault ≢ None → fault ≢ Some SourceFailed
    → Closed net out h c old now e f rs → Takes now new (Job j) → c j.due → ClosesOne net out h j fault f g rs rs' → ClosesAll net out h c limit old new e g rs' fault
closes_fault net out h c limit old now new e f g rs rs' j None some other so takes come one = absurd (some refl)
closes_fault net out h c limit old now new e f g rs rs' j (Some SourceFailed) some other so takes come one = absurd (other refl)
closes_fault net out h c limit old now new e f g rs rs' j (Some NoMemory) some other so takes come one =
    let (same, still) = one in
    subst (λ l. ClosesAll net out h c limit old new e g l (Some NoMemory)) (sym same)
    (subst (λ x. ClosesAll net out h c limit old new e x rs (Some NoMemory)) (sym still) (record {
      closes = record {
        taken = so.taken ++ j ∷ [];
        gave = holds_more old now new so.taken j so.holds takes;
        waited = All-push (λ (j : CloseJob). c j.due) so.taken j so.waited come;
        closed = inr (j, map-append closing so.taken (j ∷ []) ∙ ap (λ l. l ++ closing j ∷ []) (sym so.closed));
      };
      does = does_with net out h (Some NoMemory) e f rs rs [] so.does;
    }))
closes_fault net out h c limit old now new e f g rs rs' j (Some SinkFailed) some other so takes come one =
    let (r, is, call, did) = one in
    subst (λ l. ClosesAll net out h c limit old new e g l (Some SinkFailed)) (sym is) (record {
      closes = record {
        taken = so.taken ++ j ∷ [];
        gave = holds_more old now new so.taken j so.holds takes;
        waited = All-push (λ (j : CloseJob). c j.due) so.taken j so.waited come;
        closed = one_more rs r so.taken j so.closed call;
      };
      does = does_both net out h (Some SinkFailed) e f g rs (r ∷ []) rs (r ∷ []) [] [] so.does did;
    })
