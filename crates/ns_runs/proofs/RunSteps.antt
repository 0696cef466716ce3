-- The shards after one step more.
use Rattle.std.proofs.Common.{◌≡◌, ℕ, suc, ◌+◌, ◌<◌, Bool, List, [], ◌∷◌, ◌++◌, length, filter, filter_map, slice_get, slice_set, get_or, take, drop, append_assoc, add-one, drop-cons, Option, None, Some, option_to_list, Result, Ok, Err, refl, sym, ap, ◌∙◌, subst, arith, eqb, cond, inl, inr}
use Rattle.std.specs.Result.{result_ok}
use Rattle.std.proofs.lemmas.Bool.Decides.{eqb_tells}
use Rattle.std.proofs.lemmas.List.{append-nil, length-append, length-set, take_more}
use Rattle.std.proofs.lemmas.List.Elements.{filter-append, filter_map-append}
use Rattle.ns_roster.specs.Network.{Network}
use Rattle.ns_calls.specs.declared.call.Call.{Call}
use Rattle.ns_calls.specs.declared.call.Call.TheVariants as call
use Rattle.ns_calls.specs.declared.call.Entry.{Entry}
use Rattle.ns_calls.specs.Steps.{Refusal, link, view}
use Rattle.ns_calls.specs.Shards.{shard_of_call}
use Rattle.ns_calls.specs.Legal.{entry_for, with_call}
use Rattle.ns_kept.proofs.ReadLemmas.{reading-whole}
use Rattle.ns_calls.specs.Runs.{history_after}
use Rattle.ns_calls.proofs.MergeLemmas.{slice_get-set_other, slice_get-set_same}
use Rattle.ns_runs.specs.declared.run.Taken.{Taken}
use Rattle.ns_acts.specs.declared.step.Step.{Step}
use Rattle.ns_shard.specs.State.{State, after_call}
use Rattle.ns_acts.specs.Calls.{call_of}
use Rattle.ns_runs.specs.Taken.{calls_of}
use Rattle.ns_runs.specs.Steps.{shard_history_from, no_starts, shard_history, step_taken, all_taken, state_after, AreAfter}
use Rattle.ns_runs.specs.Private.Run.{refused_as, states_after}
use Rattle.ns_calls.proofs.Lists.{one_more}

-- the history of more calls
pub history-joined : (net : Network) (before : List Entry) (xs ys : List Call) → history_after net before (xs ++ ys) ≡ history_after net (history_after net before xs) ys
history-joined net before [] ys = refl
history-joined net before (x ∷ xs) ys = history-joined net (with_call net before (length before) x) xs ys

-- the calls of one step more
abbrev pub one_call : (shard : ℕ) → Result Call Refusal → List Call
one_call shard r = filter (λ c. eqb (shard_of_call c) shard) (option_to_list (result_ok r))

-- the calls of the steps so far and of more steps
pub calls_of-joined : (shard : ℕ) (steps more : List Step) → calls_of shard (steps ++ more) ≡ calls_of shard steps ++ calls_of shard more
calls_of-joined shard steps more =
    let own : Call → Bool = λ c. eqb (shard_of_call c) shard in
    let of : Step → Option Call = λ s. result_ok (call_of s.act) in
    ap (filter own) (filter_map-append of steps more) ∙ filter-append own (filter_map of steps) (filter_map of more)

calls_of-push : (shard : ℕ) (steps : List Step) (step : Step) → calls_of shard (steps ++ step ∷ []) ≡ calls_of shard steps ++ one_call shard (call_of step.act)
calls_of-push shard steps step =
    let own : Call → Bool = λ c. eqb (shard_of_call c) shard in
    calls_of-joined shard steps (step ∷ [])
    ∙ ap (λ cs. calls_of shard steps ++ filter own cs) (one_more (λ (s : Step). result_ok (call_of s.act)) step)

-- a step that makes no call on a shard
pub history_from-other : (net : Network) (starts : ℕ → List Entry) (shard : ℕ) (steps : List Step) (step : Step) → one_call shard (call_of step.act) ≡ []
    → shard_history_from net starts shard (steps ++ step ∷ []) ≡ shard_history_from net starts shard steps
history_from-other net starts shard steps step none =
    ap (history_after net (starts shard)) (calls_of-push shard steps step ∙ (ap (λ cs. calls_of shard steps ++ cs) none ∙ append-nil (calls_of shard steps)))

pub shard_history-other : (net : Network) (shard : ℕ) (steps : List Step) (step : Step) → one_call shard (call_of step.act) ≡ [] → shard_history net shard (steps ++ step ∷ []) ≡ shard_history net shard steps
shard_history-other net shard steps step none = history_from-other net no_starts shard steps step none

-- a step that makes a call on a shard
pub history_from-own : (net : Network) (starts : ℕ → List Entry) (shard : ℕ) (steps : List Step) (step : Step) (c : Call) → one_call shard (call_of step.act) ≡ c ∷ [] →
    let h = shard_history_from net starts shard steps in shard_history_from net starts shard (steps ++ step ∷ []) ≡ with_call net h (length h) c
history_from-own net starts shard steps step c one =
    ap (history_after net (starts shard)) (calls_of-push shard steps step ∙ ap (λ cs. calls_of shard steps ++ cs) one) ∙ history-joined net (starts shard) (calls_of shard steps) (c ∷ [])

pub shard_history-own : (net : Network) (shard : ℕ) (steps : List Step) (step : Step) (c : Call) → one_call shard (call_of step.act) ≡ c ∷ [] →
    let h = shard_history net shard steps in shard_history net shard (steps ++ step ∷ []) ≡ with_call net h (length h) c
shard_history-own net shard steps step c one = history_from-own net no_starts shard steps step c one

state_after-other : (net : Network) (shard : ℕ) (steps : List Step) (step : Step) → one_call shard (call_of step.act) ≡ [] → state_after net shard (steps ++ step ∷ []) ≡ state_after net shard steps
state_after-other net shard steps step none =
    let state : List Entry → State = λ h. record { roster = net; index = shard; made = length h; mark = 0; windows = []; entries = h } in
    ap state (shard_history-other net shard steps step none)

state_after-own : (net : Network) (shard : ℕ) (steps : List Step) (step : Step) (c : Call) → one_call shard (call_of step.act) ≡ c ∷ [] → state_after net shard (steps ++ step ∷ []) ≡ after_call (state_after net shard steps) c
state_after-own net shard steps step c one =
    let h = shard_history net shard steps in
    let state : ℕ → List Entry → State = λ n es. record { roster = net; index = shard; made = n; mark = 0; windows = []; entries = es } in
    ap (λ es. state (length es) es) (shard_history-own net shard steps step c one) ∙ (ap (λ n. state n (with_call net h (length h) c)) (length-append h _)
    ∙ ap (λ es. state (length h + 1) (h ++ entry_for net es (length h) c ∷ [])) (sym (reading-whole h)))

-- there are sixteen shards
pub shard_small : (c : Call) → shard_of_call c < 16
shard_small (call.Uplink frame heard) = omega arith
shard_small (call.Join ticket heard) = omega arith
shard_small (call.JoinReply ticket outcome) = omega arith
shard_small (call.Close window) = omega arith

-- a step that makes no call leaves the shards
after-refused : (net : Network) (before : List Step) (step : Step) (shards : List State) → AreAfter net before shards → result_ok (call_of step.act) ≡ None → AreAfter net (before ++ step ∷ []) shards
after-refused net before step shards after none =
    record {
      sixteen = after.sixteen;
      each = λ shard small.
          let no_call : one_call shard (call_of step.act) ≡ [] = ap (λ o. filter (λ c. eqb (shard_of_call c) shard) (option_to_list o)) none in
          after.each shard small ∙ ap Some (sym (state_after-other net shard before step no_call));
    }

-- a call changes its own shard alone
after-called : (net : Network) (before : List Step) (step : Step) (shards : List State) (c : Call) → AreAfter net before shards → call_of step.act ≡ Ok c
    → AreAfter net (before ++ step ∷ []) (slice_set shards (shard_of_call c) (after_call (state_after net (shard_of_call c) before) c))
after-called net before step shards c after made =
    let own = shard_of_call c in
    let next = after_call (state_after net own before) c in
    let calls : (shard : ℕ) → one_call shard (call_of step.act) ≡ cond (eqb own shard) (c ∷ []) [] = λ shard. ap (one_call shard) made in
    record {
      sixteen = length-set shards own next ∙ after.sixteen;
      each = λ shard small. elim (eqb_tells own shard) [
        | inl same ↦
            let one : one_call shard (call_of step.act) ≡ c ∷ [] = calls shard ∙ ap (λ b. cond {A = List Call} b (c ∷ []) []) same.0 in
            subst (λ k. slice_get (slice_set shards own next) k ≡ Some (state_after net k (before ++ step ∷ []))) same.1
            (slice_get-set_same shards own (state_after net own before) next (after.each own (shard_small c))
            ∙ ap Some (sym (state_after-own net own before step c (rw same.1 one))))
        | inr other ↦
            let no_call : one_call shard (call_of step.act) ≡ [] = calls shard ∙ ap (λ b. cond {A = List Call} b (c ∷ []) []) other.0 in
            slice_get-set_other shards own shard next (λ e. other.1 (sym e)) ∙ after.each shard small ∙ ap Some (sym (state_after-other net shard before step no_call))
      ];
    }

-- the shards after one step more
pub after-step : (net : Network) (before : List Step) (step : Step) (shards : List State) (r : Result Call Refusal) → AreAfter net before shards
    → call_of step.act ≡ r → AreAfter net (before ++ step ∷ []) (states_after shards (refused_as r))
after-step net before step shards (Err (link fault)) after made = after-refused net before step shards after (ap result_ok made)
after-step net before step shards (Err (view fault)) after made = after-refused net before step shards after (ap result_ok made)
after-step net before step shards (Ok c) after made =
    rw (after.each (shard_of_call c) (shard_small c)) (after-called net before step shards c after made)

-- what came of the steps so far and comes of the rest, with one step more
pub told-more : (net : Network) (steps : List Step) (i : ℕ) (x : Step) (taken all : List Taken) (t : Taken) → i < length steps → x ≡ get_or steps i x
    → taken ++ all_taken net (take i steps) (drop i steps) ≡ all → t ≡ step_taken net (take i steps) x
    → (taken ++ t ∷ []) ++ all_taken net (take (i + 1) steps) (drop (i + 1) steps) ≡ all
told-more net steps i x taken all t within is told new =
    let before : take (i + 1) steps ≡ take i steps ++ x ∷ [] = take_more steps i x within ∙ ap (λ y. take i steps ++ y ∷ []) (sym is) in
    let rest : drop i steps ≡ x ∷ drop (i + 1) steps = drop-cons steps i x within ∙ ap (λ y. y ∷ drop (suc i) steps) (sym is) ∙ ap (λ n. x ∷ drop n steps) (sym (add-one i)) in
    append_assoc taken (t ∷ []) _
    ∙ ap (λ b. taken ++ t ∷ all_taken net b (drop (i + 1) steps)) before
    ∙ ap (λ y. taken ++ y ∷ all_taken net (take i steps ++ x ∷ []) (drop (i + 1) steps)) new
    ∙ ap (λ ys. taken ++ all_taken net (take i steps) ys) (sym rest)
    ∙ told

-- one step of a run
pub next-after : (net : Network) (before : List Step) (x : Step) (shards next : List State) → AreAfter net before shards
    → next ≡ states_after shards (refused_as (call_of x.act)) → AreAfter net (before ++ x ∷ []) next
next-after net before x shards next after changed = rw changed (after-step net before x shards (call_of x.act) after refl)

pub step-more : (net : Network) (steps : List Step) (i : ℕ) (x : Step) (next : List State) → i < length steps → x ≡ get_or steps i x
    → AreAfter net (take i steps ++ x ∷ []) next → AreAfter net (take (i + 1) steps) next
step-more net steps i x next within is after =
    let longer : take (i + 1) steps ≡ take i steps ++ x ∷ [] = take_more steps i x within ∙ ap (λ y. take i steps ++ y ∷ []) (sym is) in
    subst (λ ss. AreAfter net ss next) (sym longer) after
