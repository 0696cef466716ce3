-- What stands after a call: of the state that contracts see, and of parts.
use Rattle.std.proofs.Common.{◌≡◌, Bool, true, false, cond, List, Option, None, Some, Result, Ok, Err, OnErr, IsOk, refl, sym, ap, subst, ◌∙◌}
use Rattle.ns_types.specs.Cases.{when}
use Rattle.ns_calls.specs.declared.call.Call.{Call}
use Rattle.ns_calls.specs.declared.answer.Answer.{Answer}
use Rattle.ns_calls.specs.declared.answer.Uplink.{Uplink}
use Rattle.ns_calls.specs.declared.answer.Downlink.{Downlink}
use Rattle.std.specs.Prelude.{◌==◌}
use Rattle.std.specs.Option.{option_map_or, option_and_then}
use Rattle.ns_types.specs.declared.ticket.Ticket.{Ticket}
use Rattle.ns_types.specs.Ticket.{dev_eui, join_eui}
use Rattle.ns_calls.specs.declared.call.Reply.{Reply}
use Rattle.ns_calls.specs.declared.call.Reply.TheVariants as reply
use Rattle.ns_sessions.specs.declared.decision.JoinDecision.{JoinDecision}
use Rattle.ns_sessions.specs.Record.{join_decision}
use Rattle.ns_sessions.specs.Laws.{join_decision_reply}
use Rattle.ns_devices.specs.declared.own.Own.{Own}
use Rattle.ns_devices.specs.Devices.{own_of, own_join_decision, join_decision_of}
use Rattle.ns_shard.specs.Private.Reaction.{own_join_reply, shard_join_reply}
use Rattle.ns_journal.specs.State.{JournalState}
use Rattle.ns_shard.specs.declared.parts.Parts.{Parts}
use Rattle.ns_shard.specs.State.{State, IsState, Keeps, finds_open, answer_in, after_call, answer_if_open, after_if_open}
use Rattle.ns_shard.specs.Private.Parts.{AreParts, state_of}
use Rattle.ns_shard.proofs.PartsAfter.{same-state}

pub on_err : {T E : Type 0} (r : Result T E) (P : Type 0) → P → OnErr r P
on_err (Ok x) P p = tt
on_err (Err e) P p = p

-- a call that is not refused where it finds something open
pub ok-where_open : {T E : Type 0} (r : Result T E) (b : Bool) → OnErr r (b ≡ false) → b ≡ true → IsOk r
ok-where_open (Ok x) b closed opened = refl
ok-where_open (Err e) b closed opened = absurd (cc (closed, opened))

pub never : {P : Type 0} → false ≡ true → P
never e = absurd (cc e)

-- an answer, by its fields
pub answer-fields : (r : Reply) (u : Option Uplink) (d : Option Downlink) (a : Answer) → r ≡ a.reply → u ≡ a.uplink → d ≡ a.downlink → let x : Answer = record { reply = r; uplink = u; downlink = d } in x ≡ a
answer-fields r u d a reply uplink downlink = (λ i. let x : Answer = record { reply = reply i; uplink = uplink i; downlink = downlink i } in x)

-- ---- parts

pub is-state : (p : Parts) → AreParts p → IsState (state_of p)
is-state p are = record { history = are.history; is_history = are.agrees.history; keeps = are.keeps }

-- with other room
pub same-parts : (p : Parts) (j : JournalState) → AreParts p → j.made ≡ p.journal.made → j.entries ≡ p.journal.entries → j.reserved ≡ p.journal.reserved → AreParts (record p { journal = j })
same-parts p j are made entries kept = record {
  small = are.small;
  history = are.history;
  keeps = subst (Keeps are.history) (sym (same-state p j made entries)) are.keeps;
  agrees = are.agrees;
  reserved = kept ∙ are.reserved;
}

-- ---- a call that changes nothing where it finds nothing open

pub none-closed : (s : State) (k : Call) (o : Option Answer) → o ≡ None → false ≡ finds_open s k → o ≡ answer_if_open s k
none-closed s k o is closed = is ∙ ap (λ b. when b (answer_in s k)) closed

module _ {v s : State} (same : v ≡ s) (k : Call) where
  pub same-closed : false ≡ finds_open s k → v ≡ after_if_open s k
  same-closed closed = same ∙ ap (λ b. cond b (after_call s k) s) closed

  pub some-open : (a : Answer) → a ≡ answer_in v k → true ≡ finds_open s k → Some a ≡ answer_if_open s k
  some-open a is opened = ap Some (is ∙ ap (λ x. answer_in x k) same) ∙ ap (λ b. when b (answer_in s k)) opened

  pub pushed-open : (now : State) → now ≡ after_call v k → true ≡ finds_open s k → now ≡ after_if_open s k
  pushed-open now is opened = is ∙ (ap (λ x. after_call x k) same ∙ ap (λ b. cond b (after_call s k) s) opened)

-- ---- a Join-Request, by what its device decides

decided : (devices : List Own) (t : Ticket) → option_map_or (join_decision_reply t) (join_decision_of devices t) reply.NoDevice ≡ shard_join_reply devices t
decided devices t = step (own_of (dev_eui t) devices)
  where
    chosen : (b : Bool) (d : JoinDecision) → option_map_or (join_decision_reply t) (when b d) reply.NoDevice ≡ cond b (join_decision_reply t d) reply.NoDevice
    chosen true d = refl
    chosen false d = refl

    step : (o : Option Own) → option_map_or (join_decision_reply t) (option_and_then (own_join_decision t) o) reply.NoDevice ≡ option_map_or (own_join_reply t) o reply.NoDevice
    step None = refl
    step (Some o) = chosen (o.device.join_eui.0 == (join_eui t).0) (join_decision o.state t)

pub decision-some : (devices : List Own) (t : Ticket) (d : JoinDecision) → Some d ≡ join_decision_of devices t → join_decision_reply t d ≡ shard_join_reply devices t
decision-some devices t d is = ap (λ o. option_map_or (join_decision_reply t) o reply.NoDevice) is ∙ decided devices t

pub decision-none : (devices : List Own) (t : Ticket) → None ≡ join_decision_of devices t → reply.NoDevice ≡ shard_join_reply devices t
decision-none devices t is = ap (λ o. option_map_or (join_decision_reply t) o reply.NoDevice) is ∙ decided devices t
