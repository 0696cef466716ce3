-- What comes of a join server's answer by the devices that agree with the entries, and that they agree after it.
use Rattle.std.proofs.Common.{◌≡◌, ℕ, true, false, List, length, Option, None, Some, IfSome, option_map, refl, sym, ap, ap₂, subst, ◌∙◌}
use Rattle.std.specs.Prelude.{IsSome}
use Rattle.std.specs.List.{AllByRecursion}
use Rattle.std.specs.Option.{option_and_then}
use Rattle.ns_types.specs.declared.identity.DevAddr.{DevAddr}
use Rattle.ns_types.specs.declared.identity.DevEui.{DevEui}
use Rattle.ns_types.specs.declared.identity.JoinEui.{JoinEui}
use Rattle.ns_types.specs.declared.heard.Heard.{Heard}
use Rattle.ns_types.specs.declared.ticket.Ticket.{Ticket}
use Rattle.ns_types.specs.Heard.{best, rx1}
use Rattle.ns_types.specs.Identity.{shard_of}
use Rattle.ns_types.specs.Ticket.{dev_eui, join_eui}
use Rattle.ns_roster.specs.declared.Device.{Device}
use Rattle.ns_roster.specs.Network.{Network, device, device_addr, has_join_eui}
use Rattle.ns_roster.specs.Valid.{IsRoster}
use Rattle.ns_roster.proofs.DeviceLemmas.{is_known-by_device, found-device}
use Rattle.ns_calls.specs.declared.call.Outcome.{Outcome}
use Rattle.ns_calls.specs.declared.call.Outcome.TheVariants as outcome
use Rattle.ns_calls.specs.declared.call.Call.{Call}
use Rattle.ns_calls.specs.declared.call.Call.TheVariants as call
use Rattle.ns_calls.specs.declared.call.Reply.{Reply}
use Rattle.ns_calls.specs.declared.call.Reply.TheVariants as reply
use Rattle.ns_calls.specs.declared.call.Entry.{Entry}
use Rattle.ns_calls.specs.declared.answer.Answer.{Answer}
use Rattle.ns_calls.specs.Accept.{accept_bytes}
use Rattle.ns_calls.specs.Entries.{same_device, closed, opened}
use Rattle.ns_calls.specs.History.{ends_ticket, open_tickets, is_ticket_open, ticket_copies, next_session, asked, copied}
use Rattle.ns_calls.proofs.Says.{asking_in, uplink-says, answer-says, close-says}
use Rattle.ns_calls.specs.Reply.{reply_to, reply_to_join_reply, address, is_failed}
use Rattle.ns_calls.specs.Headline.{nonce_at_or_above}
use Rattle.ns_calls.specs.Out.{answer, uplink_out, downlink_out, downlink_to, join_accept_delay}
use Rattle.ns_calls.specs.Legal.{IsLegal, entry_for, with_call}
use Rattle.ns_calls.proofs.PushLemmas.{open_tickets-push}
use Rattle.ns_calls.proofs.LegalLemmas.{history_more}
use Rattle.ns_calls.proofs.JoinLemmas.{join_reply_by, join-has}
use Rattle.ns_sessions.specs.declared.decision.AnswerDecision.{AnswerDecision}
use Rattle.ns_sessions.specs.declared.decision.AnswerDecision.TheVariants as decision
use Rattle.ns_sessions.specs.Record.{device_record, answer_decision}
use Rattle.ns_sessions.specs.Laws.{OthersStay, AnswersAgree, concerns, answer_decision_reply}
use Rattle.ns_sessions.proofs.OpenTickets.{at_member}
use Rattle.ns_windows.specs.declared.window.Window.{Window}
use Rattle.ns_devices.specs.declared.own.Own.{Own}
use Rattle.ns_shard.specs.Tables.{own_in}
use Rattle.ns_devices.specs.Devices.{own_of, with_change_of, after_answer}
use Rattle.ns_shard.specs.State.{quiet}
use Rattle.ns_shard.specs.Private.Reaction.{answer_ended, own_answer_ended, shard_answer_ended}
use Rattle.ns_shard.specs.Private.Parts.{Agrees}
use Rattle.ns_shard.proofs.Roster.{own-found}
use Rattle.ns_shard.proofs.DeviceSteps.{devices-changed}
use Rattle.ns_shard.proofs.WindowSteps.{windows-quiet}
use Rattle.ns_shard.proofs.PartSteps.{joined, others-stay, same_device-false, ended_or, all-open}
use Rattle.std.proofs.lemmas.Bool.{false_from_ne_true}

-- ---- the devices of open tickets are the roster's

has-some : (j : JoinEui) (o : Option Device) → has_join_eui j o ≡ true → IsSome o
has-some j None is = absurd (cc is)
has-some j (Some d) is = refl

asked-known : (net : Network) (h : List Entry) → IsRoster net → (c : Call) → IfSome (asking_in c (reply_to net h c)) (λ t. IsSome (device net (dev_eui t)))
asked-known net h valid (call.Uplink frame heard) = uplink-says (λ s. IfSome (asked s) (λ u. IsSome (device net (dev_eui u)))) frame heard (λ w. tt) (λ w. tt) (λ w. tt) tt (reply_to net h (call.Uplink frame heard))
asked-known net h valid (call.JoinReply t o) = answer-says (λ s. IfSome (asked s) (λ u. IsSome (device net (dev_eui u)))) t o (λ n. tt) tt tt (reply_to net h (call.JoinReply t o))
asked-known net h valid (call.Close w) = close-says (λ s. IfSome (asked s) (λ u. IsSome (device net (dev_eui u)))) w (λ ack. tt) tt (reply_to net h (call.Close w))
asked-known net h valid (call.Join t heard) =
    join-has (λ r. IfSome (asking_in (call.Join t heard) r) (λ u. IsSome (device net (dev_eui u)))) net h t (record {
      unknown = λ unknown. tt;
      old = λ known greatest. tt;
      copied = λ known room. tt;
      crowded = tt;
      busy = tt;
      ask = λ known closed room. has-some (join_eui t) (device net (dev_eui t)) (sym (is_known-by_device net valid (dev_eui t) (join_eui t)) ∙ known);
    })

tickets_known : (net : Network) (h : List Entry) → IsRoster net → IsLegal net h → AllByRecursion (λ t. IsSome (device net (dev_eui t))) (open_tickets h)
tickets_known net h valid legal =
    all-open net (λ (t : Ticket). IsSome (device net (dev_eui t))) open_tickets ends_ticket asking_in tt open_tickets-push (λ g c. asked-known net g valid c) h legal

-- an open ticket is of a device of the roster
pub open-known : (net : Network) (h : List Entry) (t : Ticket) → IsRoster net → IsLegal net h → is_ticket_open h t ≡ true → IsSome (device net (dev_eui t))
open-known net h t valid legal is = at_member (λ u. IsSome (device net (dev_eui u))) t (open_tickets h) is (tickets_known net h valid legal)

pub not_open : (net : Network) (h : List Entry) (t : Ticket) → IsRoster net → IsLegal net h → device net (dev_eui t) ≡ None → is_ticket_open h t ≡ false
not_open net h t valid legal none =
    false_from_ne_true (is_ticket_open h t) (λ is. cc (subst (λ (o : Option Device). IsSome o) none (open-known net h t valid legal is)))

pub answer-unknown : (net : Network) (h : List Entry) (t : Ticket) (o : Outcome) → is_ticket_open h t ≡ false → reply_to_join_reply net h t o ≡ reply.NoTicket
answer-unknown net h t o closed = ap (λ b. join_reply_by b (is_failed o) (nonce_at_or_above net h t) (reply.Accepted (dev_eui t) (next_session h (dev_eui t)) (address net (dev_eui t)))) closed

-- ---- the answer

-- a reply to the answer to a join, and what goes out with it
abbrev answer_with : Network → List Entry → Ticket → Outcome → Reply → Answer
answer_with net h t o r = record { reply = r; uplink = uplink_out h (call.JoinReply t o) r; downlink = downlink_out net h (call.JoinReply t o) r }

no_ticket-out : (net : Network) (h : List Entry) (t : Ticket) (o : Outcome) → quiet reply.NoTicket ≡ answer_with net h t o reply.NoTicket
no_ticket-out net h t outcome.Failed = refl
no_ticket-out net h t (outcome.Success join) = refl

decision-out : (net : Network) (h : List Entry) (t : Ticket) (o : Outcome) (d : AnswerDecision) → ((session : ℕ) (heard : Heard) → d ≡ decision.Accepted session heard → best (ticket_copies h t) ≡ Some heard) →
    ended_or net reply.NoTicket (answer_ended (address net (dev_eui t)) t o d) ≡ answer_with net h t o (answer_decision_reply net t d)
decision-out net h t outcome.Failed decision.NoTicket copies = refl
decision-out net h t outcome.Failed _ copies = refl
decision-out net h t (outcome.Success join) (decision.Accepted session heard) copies =
    ap (λ (o : Option Heard).
    let a : Answer = record {
      reply = reply.Accepted (dev_eui t) session (address net (dev_eui t));
      uplink = None;
      downlink = option_map (λ copy. downlink_to (accept_bytes join.accept) (rx1 copy 0 join_accept_delay)) o;
    } in a) (sym (copies session heard refl))
decision-out net h t (outcome.Success join) _ copies = refl

pub answer-answered : (net : Network) (index : ℕ) (h : List Entry) (devices : List Own) (windows : List Window) (t : Ticket) (o : Outcome) → Agrees net index h devices windows → AnswersAgree net h → shard_of (dev_eui t) ≡ index →
    ended_or net reply.NoTicket (shard_answer_ended devices t o) ≡ answer net h (call.JoinReply t o)
answer-answered net index h devices windows t o agrees law mine =
    ap told (ap (own_of (dev_eui t)) agrees.by_device ∙ own-found net index h (dev_eui t) mine) ∙ step (device net (dev_eui t)) refl
  where
    told : Option Own → Answer
    told x = ended_or net reply.NoTicket (option_and_then (own_answer_ended t o) x)

    step : (d : Option Device) → device net (dev_eui t) ≡ d → told (option_map (own_in net h) d) ≡ answer net h (call.JoinReply t o)
    step None is =
        no_ticket-out net h t o ∙ ap (answer_with net h t o) (sym (answer-unknown net h t o (not_open net h t agrees.valid agrees.history.legal is)))
    step (Some d) is =
        let eui : d.eui ≡ dev_eui t = (found-device net (dev_eui t) d is).1 in
        let addr : device_addr net d ≡ address net (dev_eui t) = ap (λ (x : Option Device). Rattle.std.specs.Prelude.unwrap_or (option_map (device_addr net) x) (record { 0 = 0 })) (sym is) in
        ap₂ (λ (a : DevAddr) (e : DevEui). ended_or net reply.NoTicket (answer_ended a t o (answer_decision (device_record net h e) t o))) addr eui
        ∙ (decision-out net h t o (answer_decision (device_record net h (dev_eui t)) t o) (λ session heard is. law.copies t o session heard is)
        ∙ ap (answer_with net h t o) (law.replies t o))

-- ---- after it

concerns-answer : (other : DevEui) (t : Ticket) (o : Outcome) (r : Reply) → same_device other (dev_eui t) ≡ false → concerns other (call.JoinReply t o) r ≡ false
concerns-answer other t o (reply.Accepted eui session addr) differs = same_device-false other (dev_eui t) differs
concerns-answer other t o reply.JoinRefused differs = same_device-false other (dev_eui t) differs
concerns-answer other t o (reply.JoinStale greatest) differs = same_device-false other (dev_eui t) differs
concerns-answer other t o _ differs = refl

pub agrees-answer : (net : Network) (index : ℕ) (h : List Entry) (devices : List Own) (windows : List Window) (t : Ticket) (o : Outcome) → Agrees net index h devices windows → OthersStay → AnswersAgree net h → shard_of (dev_eui t) ≡ index →
    Agrees net index (with_call net h (length h) (call.JoinReply t o)) (with_change_of (dev_eui t) (after_answer t o) devices) windows
agrees-answer net index h devices windows t o agrees stay law mine = record {
  valid = agrees.valid;
  history = history_more net index h (call.JoinReply t o) mine agrees.history;
  by_device =
      ap (with_change_of (dev_eui t) (after_answer t o)) agrees.by_device
      ∙ sym (devices-changed net index h (with_call net h (length h) (call.JoinReply t o)) (dev_eui t) (after_answer t o) agrees.valid
      (others-stay net h (length h) (call.JoinReply t o) (dev_eui t) stay (λ other differs. concerns-answer other t o (reply_to_join_reply net h t o) differs))
      (sym (law.records agrees.history.legal (length h) t o)));
  by_window = agrees.by_window ∙ sym (windows-quiet h (entry_for net h (length h) (call.JoinReply t o)) (joined net index h devices windows agrees) (answer-says (λ s. closed s ≡ None) t o (λ n. refl) refl refl (reply_to net h (call.JoinReply t o))) (answer-says (λ s. opened s ≡ None) t o (λ n. refl) refl refl (reply_to net h (call.JoinReply t o))) (answer-says (λ s. copied s ≡ None) t o (λ n. refl) refl refl (reply_to net h (call.JoinReply t o))));
}
