-- What a run hands out: each uplink with just its copies, and once.
use Rattle.std.proofs.Common.{◌≡◌, ◌⊎◌, ℕ, ◌+◌, ◌≤◌, Bool, true, false, cond, List, [], ◌∷◌, ◌++◌, length, take, slice_get, find, count_by, Option, None, Some, IfSome, option_map, option_to_list, Result, Ok, Err, refl, sym, ap, subst, ◌∙◌, arith, inl, inr}
use Rattle.std.specs.List.{AllByRecursion}
use Rattle.std.specs.Option.{option_map_or, option_and_then}
use Rattle.std.proofs.lemmas.Bool.Decides.{eqb_tells}
use Rattle.std.proofs.lemmas.List.{append_assoc, append-nil}
use Rattle.std.proofs.lemmas.Option.{same_Some}
use Rattle.ns_types.specs.declared.identity.WindowName.{WindowName}
use Rattle.ns_types.specs.Cases.{first_case, when}
use Rattle.ns_types.specs.Identity.{same_uplink, same_window, is_first, shard_of}
use Rattle.ns_roster.specs.Network.{Network}
use Rattle.ns_calls.specs.declared.answer.Uplink.{Uplink}
use Rattle.ns_calls.specs.declared.call.Call.{Call}
use Rattle.ns_calls.specs.declared.call.Call.TheVariants as call
use Rattle.ns_calls.specs.declared.call.Reply.{Reply}
use Rattle.ns_calls.specs.declared.call.Reply.TheVariants as reply
use Rattle.ns_calls.specs.declared.call.Entry.{Entry}
use Rattle.ns_calls.specs.Entries.{Opening, Closing, open_windows}
use Rattle.ns_calls.proofs.Says.{closing_in}
use Rattle.ns_calls.specs.History.{first_window, open_window}
use Rattle.ns_calls.specs.Laws.{closing_count, opening_count, open_count}
use Rattle.ns_calls.specs.Legal.{entry_for, with_call}
use Rattle.ns_calls.specs.Open.{HasJustItsCopies}
use Rattle.ns_calls.specs.Out.{answer, uplink_of, first_uplink_of, uplink_out}
use Rattle.ns_calls.specs.Reply.{ack_number, reply_to}
use Rattle.ns_calls.specs.Runs.{history_after, history_of}
use Rattle.ns_calls.specs.Shards.{shard_of_call}
use Rattle.ns_calls.specs.Steps.{Refusal, link, view}
use Rattle.ns_calls.proofs.CopyLemmas.{just_its_copies}
use Rattle.ns_calls.proofs.Lists.{count-cons, at_some, find-has}
use Rattle.ns_calls.proofs.LocalLemmas.{All-each}
use Rattle.ns_calls.proofs.NameLemmas.{same_uplink-eq, same_window-eq}
use Rattle.ns_calls.proofs.WindowLemmas.{windows_open_once, closings-added}
use Rattle.ns_acts.specs.declared.step.Step.{Step}
use Rattle.ns_shard.specs.State.{State}
use Rattle.ns_acts.specs.Calls.{call_of}
use Rattle.ns_runs.specs.Taken.{calls_of, HasCopiesAt, HasCopies, IsOfItsEntry, hands_out, AreHandedOutOnce}
use Rattle.ns_runs.specs.Steps.{shard_history, call_taken, made, all_taken, state_after, AreAfter}
use Rattle.ns_runs.proofs.RunHistories.{shard_history-is}
use Rattle.ns_runs.proofs.RunSteps.{one_call, calls_of-joined, shard_history-other, shard_history-own, shard_small, history-joined}
use Rattle.std.proofs.Math.Seq.{take-append_seam}
use Rattle.std.proofs.Math.Bool.{and-true}
use Rattle.std.proofs.lemmas.Bool.{eq-eqb, false_from_ne_true}
use Rattle.ns_shard.proofs.Maps.{at-front}

-- ---- a call hands out an uplink only where it closes the uplink's window

record Closes (net : Network) (h : List Entry) (c : Call) : Type 0 where
  window : WindowName
  ack : Option ℕ
  uplink : Uplink
  is_closing : c ≡ call.Close window
  is_reply : reply_to net h c ≡ reply.Closed window ack
  is_uplink : (answer net h c).uplink ≡ Some uplink
  is_window : uplink.window ≡ window
  is_first_of : is_first window ≡ true

found-passes : {X : Type 0} (test : X → Bool) (xs : List X) (x : X) → find test xs ≡ Some x → test x ≡ true
found-passes {X} test xs x is =
    (at_some (λ (y : X). Unit {0} × (test y ≡ true)) (find test xs) x is (find-has (λ (y : X). Unit {0}) test xs (All-each (λ (y : X). Unit {0}) (λ y. tt) xs))).1

closing-cases : (net : Network) (h : List Entry) (c : Call) → ((answer net h c).uplink ≡ None) ⊎ Closes net h c
closing-cases net h (call.Uplink frame heard) = inl refl
closing-cases net h (call.Join t heard) = inl refl
closing-cases net h (call.JoinReply t o) = inl refl
closing-cases net h (call.Close w) = step (open_window h w) refl
  where
    replied : Option Opening → Reply
    replied found = first_case (option_map (λ o. reply.Closed w (ack_number h o)) found ∷ []) reply.NoWindow

    step : (found : Option Opening) → open_window h w ≡ found → ((answer net h (call.Close w)).uplink ≡ None) ⊎ Closes net h (call.Close w)
    step None is = inl (ap (λ found. uplink_out h (call.Close w) (replied found)) is)
    step (Some o) is = first (is_first o.window) refl (ap (uplink_out h (call.Close w)) closed ∙ ap (option_and_then (first_uplink_of h)) is)
      where
        closed : reply_to net h (call.Close w) ≡ reply.Closed w (ack_number h o)
        closed = ap replied is

        name : o.window ≡ w
        name = same_window-eq o.window w (found-passes (λ (x : Opening). same_window x.window w) (open_windows h) o is)

        first : (b : Bool) → is_first o.window ≡ b → (answer net h (call.Close w)).uplink ≡ when b (uplink_of h o) → ((answer net h (call.Close w)).uplink ≡ None) ⊎ Closes net h (call.Close w)
        first false tells none = inl none
        first true tells out = inr (record {
          window = w;
          ack = ack_number h o;
          uplink = uplink_of h o;
          is_closing = refl;
          is_reply = closed;
          is_uplink = out;
          is_window = name;
          is_first_of = subst (λ (v : WindowName). is_first v ≡ true) name tells;
        })

-- ---- with just its copies

-- a history of more calls begins with the history before them
history-begins : (net : Network) (before : List Entry) (calls : List Call) → (rest : List Entry) × (history_after net before calls ≡ before ++ rest)
history-begins net before [] = ([], sym (append-nil before))
history-begins net before (c ∷ calls) =
    let more = history-begins net (with_call net before (length before) c) calls in
    (entry_for net before (length before) c ∷ more.0, more.1 ∙ append_assoc before (entry_for net before (length before) c ∷ []) more.0)

shard_history-begins : (net : Network) (shard : ℕ) (before steps : List Step) → (rest : List Entry) × (shard_history net shard (before ++ steps) ≡ shard_history net shard before ++ rest)
shard_history-begins net shard before steps =
    let more = history-begins net (shard_history net shard before) (calls_of shard steps) in
    (more.0, ap (history_of net) (calls_of-joined shard before steps) ∙ (history-joined net [] (calls_of shard before) (calls_of shard steps) ∙ more.1))

-- a call of its own shard
one_call-own : (c : Call) → one_call (shard_of_call c) (Ok c) ≡ c ∷ []
one_call-own c = ap (λ b. cond {A = List Call} b (c ∷ []) []) (eq-eqb (shard_of_call c) (shard_of_call c) refl)

-- what a call hands out after the steps before it, in the shards after all steps
call-copies : (net : Network) (before after : List Step) (step : Step) (shards : List State) (c : Call) → AreAfter net ((before ++ step ∷ []) ++ after) shards → call_of step.act ≡ Ok c
    → HasCopies shards (made net (shard_history net (shard_of_call c) before) c)
call-copies net before after step shards c are is = by (answer net h c).uplink refl
  where
    shard : ℕ
    shard = shard_of_call c

    h : List Entry
    h = shard_history net shard before

    by : (o : Option Uplink) → (answer net h c).uplink ≡ o → IfSome o (HasCopiesAt shards shard (length h))
    by None out = tt
    by (Some u) out =
        let e : Entry = entry_for net h (length h) c in
        let own : shard_history net shard (before ++ step ∷ []) ≡ h ++ e ∷ [] = shard_history-own net shard before step c (ap (one_call shard) is ∙ one_call-own c) in
        let more = shard_history-begins net shard (before ++ step ∷ []) after in
        let whole : shard_history net shard ((before ++ step ∷ []) ++ after) ≡ h ++ e ∷ more.0 = more.1 ∙ (ap (λ es. es ++ more.0) own ∙ append_assoc h (e ∷ []) more.0) in
        record {
          state = state_after net shard ((before ++ step ∷ []) ++ after);
          of_shard = are.each shard (shard_small c);
          entry = e;
          at = ap (λ es. slice_get es (length h)) whole ∙ at-front h more.0 e;
          closing = closed_by (closing-cases net h c);
          copies = subst (λ es. HasJustItsCopies es u) (sym (ap (take (length h)) whole ∙ take-append_seam h (e ∷ more.0))) (just_its_copies net h (shard_history-is net shard before).legal c u out);
        }
      where
        closed_by : ((answer net h c).uplink ≡ None) ⊎ Closes net h c → c ≡ call.Close u.window
        closed_by (inl none) = absurd (cc (none, out))
        closed_by (inr closes) =
            let same : closes.uplink ≡ u = same_Some closes.uplink u (sym closes.is_uplink ∙ out) in
            closes.is_closing ∙ ap call.Close (sym closes.is_window ∙ ap (λ (x : Uplink). x.window) same)

result-copies : (net : Network) (before after : List Step) (step : Step) (shards : List State) → AreAfter net ((before ++ step ∷ []) ++ after) shards
    → (r : Result Call Refusal) → call_of step.act ≡ r → HasCopies shards (call_taken net before r)
result-copies net before after step shards are (Err (link fault)) is = tt
result-copies net before after step shards are (Err (view fault)) is = tt
result-copies net before after step shards are (Ok c) is = call-copies net before after step shards c are is

all-copies : (net : Network) (before steps : List Step) (shards : List State) → AreAfter net (before ++ steps) shards → AllByRecursion (HasCopies shards) (all_taken net before steps)
all-copies net before [] shards are = tt
all-copies net before (step ∷ steps) shards are =
    let next : AreAfter net ((before ++ step ∷ []) ++ steps) shards = subst (λ ss. AreAfter net ss shards) (sym (append_assoc before (step ∷ []) steps)) are in
    (result-copies net before steps step shards next (call_of step.act) refl, all-copies net (before ++ step ∷ []) steps shards next)

pub taken-copies : (net : Network) (steps : List Step) (shards : List State) → AreAfter net steps shards → AllByRecursion (HasCopies shards) (all_taken net [] steps)
taken-copies net steps shards are = all-copies net [] steps shards are

-- ---- each answer is that of its entry

call-entry : (net : Network) (before after : List Step) (step : Step) (shards : List State) (c : Call) → AreAfter net ((before ++ step ∷ []) ++ after) shards → call_of step.act ≡ Ok c
    → IsOfItsEntry net shards (made net (shard_history net (shard_of_call c) before) c)
call-entry net before after step shards c are is =
    let shard : ℕ = shard_of_call c in
    let h : List Entry = shard_history net shard before in
    let e : Entry = entry_for net h (length h) c in
    let own : shard_history net shard (before ++ step ∷ []) ≡ h ++ e ∷ [] = shard_history-own net shard before step c (ap (one_call shard) is ∙ one_call-own c) in
    let more = shard_history-begins net shard (before ++ step ∷ []) after in
    let whole : shard_history net shard ((before ++ step ∷ []) ++ after) ≡ h ++ e ∷ more.0 = more.1 ∙ (ap (λ es. es ++ more.0) own ∙ append_assoc h (e ∷ []) more.0) in
    record {
      state = state_after net shard ((before ++ step ∷ []) ++ after);
      of_shard = are.each shard (shard_small c);
      entry = e;
      at = ap (λ es. slice_get es (length h)) whole ∙ at-front h more.0 e;
      reply = refl;
      is = ap (λ es. answer net es c) (sym (ap (take (length h)) whole ∙ take-append_seam h (e ∷ more.0)));
    }

result-entry : (net : Network) (before after : List Step) (step : Step) (shards : List State) → AreAfter net ((before ++ step ∷ []) ++ after) shards
    → (r : Result Call Refusal) → call_of step.act ≡ r → IsOfItsEntry net shards (call_taken net before r)
result-entry net before after step shards are (Err (link fault)) is = tt
result-entry net before after step shards are (Err (view fault)) is = tt
result-entry net before after step shards are (Ok c) is = call-entry net before after step shards c are is

all-entries : (net : Network) (before steps : List Step) (shards : List State) → AreAfter net (before ++ steps) shards → AllByRecursion (IsOfItsEntry net shards) (all_taken net before steps)
all-entries net before [] shards are = tt
all-entries net before (step ∷ steps) shards are =
    let next : AreAfter net ((before ++ step ∷ []) ++ steps) shards = subst (λ ss. AreAfter net ss shards) (sym (append_assoc before (step ∷ []) steps)) are in
    (result-entry net before steps step shards next (call_of step.act) refl, all-entries net (before ++ step ∷ []) steps shards next)

pub taken-entries : (net : Network) (steps : List Step) (shards : List State) → AreAfter net steps shards → AllByRecursion (IsOfItsEntry net shards) (all_taken net [] steps)
taken-entries net steps shards are = all-entries net [] steps shards are

-- ---- once of an uplink

-- the first window of an uplink
abbrev first_of : WindowName → WindowName
first_of w = first_window w.eui w.session w.fcnt

-- how many closings of it one call adds
abbrev closed_by : Network → List Entry → Call → WindowName → ℕ
closed_by net h c w = count_by (λ x. same_window x.window (first_of w)) (option_to_list (closing_in c (reply_to net h c)))

abbrev handed : WindowName → Option Uplink → Bool
handed w o = option_map_or (λ u. same_uplink u.window w) o false

-- what a call hands out of an uplink, it closes the first window of
handed-closed : (net : Network) (h : List Entry) (c : Call) (w : WindowName) → cond (handed w (answer net h c).uplink) 1 0 ≤ closed_by net h c w
handed-closed net h c w = by (closing-cases net h c)
  where
    by : ((answer net h c).uplink ≡ None) ⊎ Closes net h c → cond (handed w (answer net h c).uplink) 1 0 ≤ closed_by net h c w
    by (inl none) = (let nothing : cond (handed w (answer net h c).uplink) 1 0 ≡ 0 = ap (λ o. cond {A = ℕ} (handed w o) 1 0) none in omega (arith, nothing))
    by (inr closes) =
        let test : Closing → Bool = λ x. same_window x.window (first_of w) in
        let out : cond {A = ℕ} (handed w (answer net h c).uplink) 1 0 ≡ cond (same_uplink closes.window w) 1 0 = rw (closes.is_uplink, closes.is_window) in
        let closed : closing_in c (reply_to net h c) ≡ Some (record { window = closes.window; ack = closes.ack }) = rw (closes.is_reply, closes.is_closing) in
        let one : closed_by net h c w ≡ cond (same_window closes.window (first_of w)) 1 0 + 0 = ap (λ o. count_by test (option_to_list o)) closed ∙ count-cons test (record { window = closes.window; ack = closes.ack }) [] in
        let here : cond {A = ℕ} (same_window closes.window (first_of w)) 1 0 ≡ cond (same_uplink closes.window w) 1 0 = rw (closes.is_first_of, and-true (same_uplink closes.window w)) in
        omega (arith, out, one, here)

-- what a call of another shard hands out is of another uplink
handed-elsewhere : (net : Network) (h : List Entry) (c : Call) (w : WindowName) → (shard_of_call c ≡ shard_of w.eui → ⊥) → handed w (answer net h c).uplink ≡ false
handed-elsewhere net h c w apart = by (closing-cases net h c)
  where
    by : ((answer net h c).uplink ≡ None) ⊎ Closes net h c → handed w (answer net h c).uplink ≡ false
    by (inl none) = ap (handed w) none
    by (inr closes) =
        rw (closes.is_uplink, closes.is_window)
        (false_from_ne_true (same_uplink closes.window w) (λ same. apart (ap shard_of_call closes.is_closing ∙ ap shard_of (same_uplink-eq closes.window w same).eui)))

-- a step that makes no call on the shard closes nothing there
none-closed : (net : Network) (before : List Step) (step : Step) (w : WindowName) → one_call (shard_of w.eui) (call_of step.act) ≡ [] →
    closing_count (shard_history net (shard_of w.eui) (before ++ step ∷ [])) (first_of w) ≡ closing_count (shard_history net (shard_of w.eui) before) (first_of w)
none-closed net before step w none = ap (λ es. closing_count es (first_of w)) (shard_history-other net (shard_of w.eui) before step none)

-- one step hands out no more of an uplink than it closes of its first window in its shard
step-handed : (net : Network) (before : List Step) (step : Step) (w : WindowName) (r : Result Call Refusal) → call_of step.act ≡ r →
    let shard = shard_of w.eui in
    cond (hands_out w (call_taken net before r)) 1 0 + closing_count (shard_history net shard before) (first_of w) ≤ closing_count (shard_history net shard (before ++ step ∷ [])) (first_of w)
step-handed net before step w (Err (link fault)) is = omega (arith, none-closed net before step w (ap (one_call (shard_of w.eui)) is))
step-handed net before step w (Err (view fault)) is = omega (arith, none-closed net before step w (ap (one_call (shard_of w.eui)) is))
step-handed net before step w (Ok c) is =
    let shard = shard_of w.eui in
    elim (eqb_tells (shard_of_call c) shard) [
      | inl own ↦
          (let h = shard_history net shard before in
          let one : one_call shard (call_of step.act) ≡ c ∷ [] = ap (one_call shard) is ∙ ap (λ b. cond {A = List Call} b (c ∷ []) []) own.0 in
          let now = ap (λ es. closing_count es (first_of w)) (shard_history-own net shard before step c one) ∙ closings-added h (entry_for net h (length h) c) (first_of w) in
          let out : cond (hands_out w (call_taken net before (Ok c))) 1 0 ≤ closed_by net h c w = subst (λ k. cond (handed w (answer net (shard_history net k before) c).uplink) 1 0 ≤ closed_by net h c w) (sym own.1) (handed-closed net h c w) in
          omega (arith, now, out))
      | inr other ↦
          (let same = none-closed net before step w (ap (one_call shard) is ∙ ap (λ b. cond {A = List Call} b (c ∷ []) []) other.0) in
          let out : cond (hands_out w (call_taken net before (Ok c))) 1 0 ≡ 0 = ap (λ b. cond {A = ℕ} b 1 0) (handed-elsewhere net (shard_history net (shard_of_call c) before) c w other.1) in
          omega (arith, same, out))
    ]

steps-handed : (net : Network) (before steps : List Step) (w : WindowName) →
    let shard = shard_of w.eui in
    count_by (hands_out w) (all_taken net before steps) + closing_count (shard_history net shard before) (first_of w) ≤ closing_count (shard_history net shard (before ++ steps)) (first_of w)
steps-handed net before [] w =
    let shard = shard_of w.eui in
    let same = ap (λ ss. closing_count (shard_history net shard ss) (first_of w)) (append-nil before) in
    omega (arith, same)
steps-handed net before (step ∷ steps) w =
    let shard = shard_of w.eui in
    let later = steps-handed net (before ++ step ∷ []) steps w in
    let same = ap (λ ss. closing_count (shard_history net shard ss) (first_of w)) (append_assoc before (step ∷ []) steps) in
    let one = step-handed net before step w (call_of step.act) refl in
    let sum = count-cons (hands_out w) (call_taken net before (call_of step.act)) (all_taken net (before ++ step ∷ []) steps) in
    omega (arith, later, same, one, sum)

pub taken-once : (net : Network) (steps : List Step) → AreHandedOutOnce (all_taken net [] steps)
taken-once net steps w =
    let shard = shard_of w.eui in
    let h = shard_history net shard steps in
    let once = windows_open_once net h (shard_history-is net shard steps).legal in
    let all = steps-handed net [] steps w in
    let closes : closing_count h (first_of w) + open_count h (first_of w) ≡ opening_count h (first_of w) = once.closes (first_of w) in
    let opens : opening_count h (first_of w) ≤ 1 = once.opens (first_of w) in
    omega (arith, all, closes, opens)
