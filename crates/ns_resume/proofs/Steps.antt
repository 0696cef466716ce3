-- The shards after one step more, and what came of it.
use Rattle.std.proofs.Common.{◌≡◌, ℕ, ◌≤◌, drop, suc, true, Ok, List, [], ◌∷◌, ◌++◌, length, refl, sym, ap, ◌∙◌, subst, arith, append-nil, append_assoc}
use Rattle.std.specs.Prelude.{flat_map}
use Rattle.std.specs.List.{AllByRecursion}
use Rattle.std.proofs.lemmas.List.{drop-append-le, drop_all}
use Rattle.std.proofs.lemmas.List.Concat.{flat_map-append}
use Rattle.ns_roster.specs.Network.{Network}
use Rattle.ns_calls.specs.declared.call.Call.{Call}
use Rattle.ns_calls.specs.declared.call.Entry.{Entry}
use Rattle.ns_calls.specs.declared.answer.Answer.{Answer}
use Rattle.ns_calls.specs.Out.{answer}
use Rattle.ns_calls.specs.Shards.{shard_of_call}
use Rattle.ns_calls.proofs.Lists.{All-push}
use Rattle.ns_recorded.specs.Recorded.{matters}
use Rattle.ns_acts.specs.declared.step.Step.{Step}
use Rattle.ns_runs.specs.declared.run.Taken.TheVariants.{Made}
use Rattle.ns_shard.specs.State.{State}
use Rattle.ns_acts.specs.Calls.{call_of}
use Rattle.ns_runs.specs.KeptSteps.{AreKeptFrom}
use Rattle.ns_runs.specs.Steps.{shard_history_from, all_taken_from, step_taken_from, call_taken_from}
use Rattle.ns_shard.proofs.Entries.{answer-is}
use Rattle.ns_runs.proofs.KeptSteps.{kept_from-called}
use Rattle.ns_resume.specs.Resumed.{fits, AllFitFrom, up_of, ups_since_from}
use Rattle.ns_resume.specs.Private.Running.{HasAnswered}

-- ---- the shards after a step that makes this call

pub kept-answered : (net : Network) (starts : ℕ → List Entry) (steps : List Step) (step : Step) (shards new : List State) (c : Call) (a : Answer) → AreKeptFrom net starts steps shards → call_of step.act ≡ Ok c → HasAnswered shards new c a
    → AreKeptFrom net starts (steps ++ step ∷ []) new
kept-answered net starts steps step shards new c a are made answered =
    subst (AreKeptFrom net starts (steps ++ step ∷ [])) (sym answered.shards) (kept_from-called net starts steps step shards c answered.before answered.after are made answered.at answered.trimmed)

-- ---- what came of the step

-- what comes of one step more comes last
pub all_taken-push : (net : Network) (starts : ℕ → List Entry) (before steps : List Step) (step : Step)
    → all_taken_from net starts before (steps ++ step ∷ []) ≡ all_taken_from net starts before steps ++ step_taken_from net starts (before ++ steps) step ∷ []
all_taken-push net starts before [] step = ap (λ b. step_taken_from net starts b step ∷ []) (sym (append-nil before))
all_taken-push net starts before (s ∷ steps) step =
    ap (λ ts. step_taken_from net starts before s ∷ ts)
    (all_taken-push net starts (before ++ s ∷ []) steps step
    ∙ ap (λ b. all_taken_from net starts (before ++ s ∷ []) steps ++ step_taken_from net starts b step ∷ []) (append_assoc before (s ∷ []) steps))

-- what came of the step that makes this call is its answer
pub taken-is : (net : Network) (starts : ℕ → List Entry) (steps : List Step) (step : Step) (shards new : List State) (c : Call) (a : Answer) → AreKeptFrom net starts steps shards → call_of step.act ≡ Ok c → HasAnswered shards new c a
    → step_taken_from net starts steps step ≡ Made (shard_of_call c) (length (shard_history_from net starts (shard_of_call c) steps)) a
taken-is net starts steps step shards new c a are made answered =
    let own : ℕ = shard_of_call c in
    let h : List Entry = shard_history_from net starts own steps in
    let is = are.each own answered.before answered.at in
    ap (call_taken_from net starts steps) made
    ∙ ap (Made own (length h)) (sym (answered.answered ∙ answer-is h answered.before c is.keeps ∙ ap (λ n. answer n h c) is.roster))

pub flat_map-push : {X Y : Type 0} (f : X → List Y) (xs : List X) (x : X) → flat_map f (xs ++ x ∷ []) ≡ flat_map f xs ++ f x
flat_map-push f xs x = flat_map-append f xs (x ∷ []) ∙ ap (λ l. flat_map f xs ++ l) (append-nil (f x))

pub fit-push : (net : Network) (starts : ℕ → List Entry) (steps : List Step) (step : Step) (shard number : ℕ) (a : Answer) → AllFitFrom net starts steps
    → step_taken_from net starts steps step ≡ Made shard number a → matters a.reply ≡ true → AllFitFrom net starts (steps ++ step ∷ [])
fit-push net starts steps step shard number a all made fit =
    subst (AllByRecursion (λ t. fits t ≡ true)) (sym (all_taken-push net starts [] steps step))
    (All-push (λ t. fits t ≡ true) (all_taken_from net starts [] steps) (step_taken_from net starts steps step) all (ap fits made ∙ fit))

-- as many things come of steps as there are
pub length-taken : (net : Network) (starts : ℕ → List Entry) (before steps : List Step) → length (all_taken_from net starts before steps) ≡ length steps
length-taken net starts before [] = refl
length-taken net starts before (s ∷ steps) = ap suc (length-taken net starts (before ++ s ∷ []) steps)

-- the `up` line of one step more, where it is not one of the first ones, which imply none
pub ups-push : (net : Network) (starts : ℕ → List Entry) (before : ℕ) (steps : List Step) (step : Step) (shard number : ℕ) (a : Answer) → before ≤ length steps
    → step_taken_from net starts steps step ≡ Made shard number a → ups_since_from net starts before (steps ++ step ∷ []) ≡ ups_since_from net starts before steps ++ up_of (Made shard number a)
ups-push net starts before steps step shard number a within made =
    let long : length (all_taken_from net starts [] steps) ≡ length steps = length-taken net starts [] steps in
    ap (λ ts. flat_map up_of (drop before ts)) (all_taken-push net starts [] steps step)
    ∙ (ap (flat_map up_of) (drop-append-le before (all_taken_from net starts [] steps) (step_taken_from net starts steps step ∷ []) (omega (arith, long, within)))
    ∙ (flat_map-push up_of (drop before (all_taken_from net starts [] steps)) (step_taken_from net starts steps step)
    ∙ ap (λ t. ups_since_from net starts before steps ++ up_of t) made))

pub ups-first : (net : Network) (starts : ℕ → List Entry) (before : ℕ) (steps : List Step) → length steps ≤ before → ups_since_from net starts before steps ≡ []
ups-first net starts before steps within =
    let long : length (all_taken_from net starts [] steps) ≡ length steps = length-taken net starts [] steps in
    ap (flat_map up_of) (drop_all before (all_taken_from net starts [] steps) (omega (arith, long, within)))
