-- What steps leave in shards that may have been trimmed between them.
use Rattle.std.proofs.Common.{◌≡◌, ℕ, ◌<◌, Ok, Err, List, [], ◌∷◌, ◌++◌, length, slice_get, slice_set, get_or, filter, option_to_list, option_map, cond, None, Some, Result, refl, sym, ap, ◌∙◌, subst, arith, ◌==◌, eqb, eq-eqb, inl, inr}
use Rattle.std.specs.Option.{option_and_then}
use Rattle.std.specs.Result.{result_ok}
use Rattle.std.proofs.lemmas.Bool.Decides.{eqb_tells}
use Rattle.std.proofs.lemmas.List.{length-set}
use Rattle.std.proofs.lemmas.Option.{same_Some, slice_get_within, slice_get-get_or}
use Rattle.ns_types.specs.declared.identity.DevEui.{DevEui}
use Rattle.ns_types.specs.Identity.{shard_of, shard_count}
use Rattle.ns_roster.specs.Network.{Network, device}
use Rattle.ns_calls.specs.declared.call.Call.{Call}
use Rattle.ns_calls.specs.declared.call.Entry.{Entry}
use Rattle.ns_calls.specs.Legal.{with_call}
use Rattle.ns_calls.specs.Out.{answer}
use Rattle.ns_calls.specs.Shards.{shard_of_call}
use Rattle.ns_calls.specs.Steps.{Refusal, link, view}
use Rattle.ns_calls.proofs.MergeLemmas.{slice_get-set_same, slice_get-set_other}
use Rattle.ns_kept.specs.Kept.{keep}
use Rattle.ns_kept.specs.Left.{Leaves}
use Rattle.ns_kept.proofs.Law.{whole-leaves, leaves-trim, leaves-nonces}
use Rattle.ns_runs.specs.declared.run.Taken.{Taken}
use Rattle.ns_runs.specs.declared.run.Taken.TheVariants.{Made}
use Rattle.ns_acts.specs.declared.step.Step.{Step}
use Rattle.ns_runs.specs.NextRun.{greatest_among, greatest_after}
use Rattle.ns_runs.specs.KeptSteps.{AreInPlace, IsKeptFrom, AreKeptFrom, IsKeptAfter, AreKeptAfter}
use Rattle.ns_runs.specs.Private.Run.{refused_as, taken_in, states_after}
use Rattle.ns_shard.specs.State.{State, Keeps, MayBeTrimmed, after_call, after_trim, answer_in, remains, seen, known_greatest, greatest_in}
use Rattle.ns_runs.specs.Steps.{shard_history_from, no_starts, shard_history, call_taken, step_taken, state_after, AreAfter}
use Rattle.ns_acts.specs.Calls.{call_of}
use Rattle.ns_shard.proofs.Entries.{keeps-more, answer-is}
use Rattle.ns_runs.proofs.RunHistories.{shard_history-is}
use Rattle.ns_runs.proofs.RunSteps.{one_call, history_from-other, history_from-own, shard_small}

-- ---- one shard

-- a shard on which a step makes no call
kept-other : (net : Network) (starts : ℕ → List Entry) (steps : List Step) (step : Step) (k : ℕ) (s : State) → one_call k (call_of step.act) ≡ [] → IsKeptFrom net starts steps k s
    → IsKeptFrom net starts (steps ++ step ∷ []) k s
kept-other net starts steps step k s none is = record {
  roster = is.roster;
  index = is.index;
  keeps = subst (λ h. Keeps h s) (sym (history_from-other net starts k steps step none)) is.keeps;
}

-- the shard on which it makes one
kept-own : (net : Network) (starts : ℕ → List Entry) (steps : List Step) (step : Step) (c : Call) (k : ℕ) (s : State) → one_call k (call_of step.act) ≡ c ∷ [] → IsKeptFrom net starts steps k s
    → IsKeptFrom net starts (steps ++ step ∷ []) k (after_call s c)
kept-own net starts steps step c k s one is =
    let h : List Entry = shard_history_from net starts k steps in
    record {
      roster = is.roster;
      index = is.index;
      keeps =
          subst (λ x. Keeps x (after_call s c)) (sym (history_from-own net starts k steps step c one))
          (subst (λ n. Keeps (with_call n h (length h) c) (after_call s c)) is.roster (keeps-more h s c is.keeps));
    }

keeps-trim : (h : List Entry) (s : State) → Keeps h s → Keeps h (after_trim s)
keeps-trim h s keeps = record {
  made = keeps.made;
  left = subst (λ n. Leaves s.roster h (keep n (remains s))) (sym keeps.made) (leaves-trim s.roster h (remains s) keeps.left);
}

-- a shard that may have been trimmed
kept-trimmed : (net : Network) (starts : ℕ → List Entry) (steps : List Step) (k : ℕ) (s t : State) → MayBeTrimmed s t → IsKeptFrom net starts steps k s → IsKeptFrom net starts steps k t
kept-trimmed net starts steps k s t (inl same) is = subst (IsKeptFrom net starts steps k) (sym same) is
kept-trimmed net starts steps k s t (inr trimmed) is =
    subst (IsKeptFrom net starts steps k) (sym trimmed) (record { roster = is.roster; index = is.index; keeps = keeps-trim (shard_history_from net starts k steps) s is.keeps })

-- ---- all shards

pub in_place_from : (net : Network) (starts : ℕ → List Entry) (steps : List Step) (shards : List State) → AreKeptFrom net starts steps shards → AreInPlace shards
in_place_from net starts steps shards are k s at = (are.each k s at).index

pub in_place : (net : Network) (steps : List Step) (shards : List State) → AreKeptAfter net steps shards → AreInPlace shards
in_place net steps shards are = in_place_from net no_starts steps shards are

keeps-whole : (net : Network) (k : ℕ) (steps : List Step) → Keeps (shard_history net k steps) (state_after net k steps)
keeps-whole net k steps =
    let is = shard_history-is net k steps in
    record { made = refl; left = whole-leaves net (shard_history net k steps) is.legal is.numbered }

-- shards that were never trimmed
pub kept-whole : (net : Network) (steps : List Step) (shards : List State) → AreAfter net steps shards → AreKeptAfter net steps shards
kept-whole net steps shards after = record {
  sixteen = after.sixteen;
  each = λ k s at.
      let within : k < length shards = slice_get_within shards k s at in
      let is : state_after net k steps ≡ s = same_Some (state_after net k steps) s (sym (after.each k (omega (arith, after.sixteen, within))) ∙ at) in
      subst (IsKeptAfter net steps k) is (record { roster = refl; index = refl; keeps = keeps-whole net k steps });
}

-- shards of which one may have been trimmed
pub kept-set : (net : Network) (steps : List Step) (shards : List State) (own : ℕ) (s t : State) → AreKeptAfter net steps shards → slice_get shards own ≡ Some s → MayBeTrimmed s t
    → AreKeptAfter net steps (slice_set shards own t)
kept-set net steps shards own s t are at trimmed = record {
  sixteen = length-set shards own t ∙ are.sixteen;
  each = λ k u found. elim (eqb_tells own k) [
    | inl same ↦
        let is : t ≡ u = same_Some t u (sym (slice_get-set_same shards own s t at) ∙ (ap (slice_get (slice_set shards own t)) same.1 ∙ found)) in
        subst (λ n. IsKeptAfter net steps n u) same.1 (subst (IsKeptAfter net steps own) is (kept-trimmed net no_starts steps own s t trimmed (are.each own s at)))
    | inr other ↦ are.each k u (sym (slice_get-set_other shards own k t (λ e. other.1 (sym e))) ∙ found)
  ];
}

-- the shards after a step that makes this call, whose shard may have been trimmed then
pub kept_from-called : (net : Network) (starts : ℕ → List Entry) (steps : List Step) (step : Step) (shards : List State) (c : Call) (s t : State) → AreKeptFrom net starts steps shards
    → call_of step.act ≡ Ok c → slice_get shards (shard_of_call c) ≡ Some s → MayBeTrimmed (after_call s c) t → AreKeptFrom net starts (steps ++ step ∷ []) (slice_set shards (shard_of_call c) t)
kept_from-called net starts steps step shards c s t are made at trimmed =
    let own : ℕ = shard_of_call c in
    let all : List Step = steps ++ step ∷ [] in
    let calls : (k : ℕ) → one_call k (call_of step.act) ≡ cond (eqb own k) (c ∷ []) [] = λ k. ap (one_call k) made in
    record {
      sixteen = length-set shards own t ∙ are.sixteen;
      each = λ k u found. elim (eqb_tells own k) [
        | inl same ↦
            let one : one_call own (call_of step.act) ≡ c ∷ [] = calls own ∙ ap (λ b. cond {A = List Call} b (c ∷ []) []) (eq-eqb own own refl) in
            let is : t ≡ u = same_Some t u (sym (slice_get-set_same shards own s t at) ∙ (ap (slice_get (slice_set shards own t)) same.1 ∙ found)) in
            subst (λ n. IsKeptFrom net starts all n u) same.1
            (subst (IsKeptFrom net starts all own) is (kept-trimmed net starts all own (after_call s c) t trimmed (kept-own net starts steps step c own s one (are.each own s at))))
        | inr other ↦
            let none : one_call k (call_of step.act) ≡ [] = calls k ∙ ap (λ b. cond {A = List Call} b (c ∷ []) []) other.0 in
            kept-other net starts steps step k u none (are.each k u (sym (slice_get-set_other shards own k t (λ e. other.1 (sym e))) ∙ found))
      ];
    }

pub kept-called : (net : Network) (steps : List Step) (step : Step) (shards : List State) (c : Call) (s t : State) → AreKeptAfter net steps shards → call_of step.act ≡ Ok c
    → slice_get shards (shard_of_call c) ≡ Some s → MayBeTrimmed (after_call s c) t → AreKeptAfter net (steps ++ step ∷ []) (slice_set shards (shard_of_call c) t)
kept-called net steps step shards c s t are made at trimmed = kept_from-called net no_starts steps step shards c s t are made at trimmed

-- the shards after a step that makes no call
kept-refused : (net : Network) (before : List Step) (step : Step) (shards : List State) → AreKeptAfter net before shards → result_ok (call_of step.act) ≡ None → AreKeptAfter net (before ++ step ∷ []) shards
kept-refused net before step shards are none = record {
  sixteen = are.sixteen;
  each = λ k s at.
      let no_call : one_call k (call_of step.act) ≡ [] = ap (λ o. filter (λ c. eqb (shard_of_call c) k) (option_to_list o)) none in
      kept-other net no_starts before step k s no_call (are.each k s at);
}

-- the shard of this number is there
at-number : (net : Network) (steps : List Step) (shards : List State) (k : ℕ) → AreKeptAfter net steps shards → k < shard_count → (s : State) × (slice_get shards k ≡ Some s)
at-number net steps shards k are within =
    let none : State = state_after net k [] in
    (get_or shards k none, slice_get-get_or shards k none (omega (arith, within, are.sixteen)))

-- what comes of a step, and the shards after it
kept-step : (net : Network) (before : List Step) (step : Step) (shards : List State) (r : Result Call Refusal) → AreKeptAfter net before shards → call_of step.act ≡ r
    → AreKeptAfter net (before ++ step ∷ []) (states_after shards (refused_as r))
kept-step net before step shards (Err (link fault)) are made = kept-refused net before step shards are (ap result_ok made)
kept-step net before step shards (Err (view fault)) are made = kept-refused net before step shards are (ap result_ok made)
kept-step net before step shards (Ok c) are made =
    let own = at-number net before shards (shard_of_call c) are (shard_small c) in
    rw own.1 (kept-called net before step shards c own.0 (after_call own.0 c) are made own.1 (inl refl))

taken-after : (net : Network) (before : List Step) (shards : List State) (r : Result Call Refusal) → AreKeptAfter net before shards → taken_in shards (refused_as r) ≡ Some (call_taken net before r)
taken-after net before shards (Err (link fault)) are = refl
taken-after net before shards (Err (view fault)) are = refl
taken-after net before shards (Ok c) are =
    let own = at-number net before shards (shard_of_call c) are (shard_small c) in
    let h : List Entry = shard_history net (shard_of_call c) before in
    let is = are.each (shard_of_call c) own.0 own.1 in
    ap (option_map (λ (x : State). Made (shard_of_call c) x.made (answer_in x c))) own.1
    ∙ (ap (λ n. Some (Made (shard_of_call c) n (answer_in own.0 c))) is.keeps.made
    ∙ ap (λ a. Some (Made (shard_of_call c) (length h) a)) (answer-is h own.0 c is.keeps ∙ ap (λ n. answer n h c) is.roster))

pub next-kept : (net : Network) (before : List Step) (x : Step) (shards next : List State) → AreKeptAfter net before shards → next ≡ states_after shards (refused_as (call_of x.act)) → AreKeptAfter net (before ++ x ∷ []) next
next-kept net before x shards next are changed = subst (AreKeptAfter net (before ++ x ∷ [])) (sym changed) (kept-step net before x shards (call_of x.act) are refl)

pub step-taken : (net : Network) (before : List Step) (x : Step) (shards : List State) (t : Taken) → AreKeptAfter net before shards → taken_in shards (refused_as (call_of x.act)) ≡ Some t → t ≡ step_taken net before x
step-taken net before x shards t are told = same_Some t (step_taken net before x) (sym told ∙ taken-after net before shards (call_of x.act) are)

-- the greatest nonce of a device, as its shard has it after the steps
pub greatest-kept : (net : Network) (steps : List Step) (shards : List State) → AreKeptAfter net steps shards → (eui : DevEui) → greatest_among shards eui ≡ greatest_after net steps eui
greatest-kept net steps shards are eui =
    let shard : ℕ = shard_of eui in
    let h : List Entry = shard_history net shard steps in
    let own = at-number net steps shards shard are (omega arith) in
    let s : State = own.0 in
    let is = are.each shard s own.1 in
    ap (option_and_then (λ (t : State). greatest_in t eui)) own.1
    ∙ (ap (λ n. cond (shard == n) (known_greatest s.roster (seen s) eui) None) is.index
    ∙ (ap (λ b. cond b (known_greatest s.roster (seen s) eui) None) (eq-eqb shard shard refl)
    ∙ (ap (λ n. known_greatest n (seen s) eui) is.roster
    ∙ ap (λ g. option_and_then (λ d. g) (device net eui)) (leaves-nonces net h (remains s) (subst (λ n. Leaves n h (remains s)) is.roster is.keeps.left) eui))))
