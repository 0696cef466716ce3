-- Closings and answers by the devices and windows that agree with the entries: what ends, whose it is, and what stays where nothing ends.
use Rattle.std.proofs.Common.{◌≡◌, ℕ, ◌==◌, true, false, ◌||◌, List, [], ◌∷◌, length, Option, None, Some, slice_get, option_map, refl, sym, ap, subst, ◌∙◌, arith, inl, inr}
use Rattle.std.specs.Arc.{arc_value}
use Rattle.std.specs.List.{AllByRecursion, list_any}
use Rattle.std.specs.Option.{is_some, option_and_then}
use Rattle.std.proofs.lemmas.Bool.{false≢true, false_from_ne_true, eq-eqb}
use Rattle.std.proofs.lemmas.Bool.Decides.{nat_tests}
use Rattle.ns_types.specs.declared.identity.DevEui.{DevEui}
use Rattle.ns_types.specs.declared.identity.WindowName.{WindowName}
use Rattle.ns_types.specs.declared.ticket.Ticket.{Ticket}
use Rattle.ns_types.specs.declared.identity.DevAddr.{DevAddr}
use Rattle.ns_types.specs.Identity.{shard_of, same_window}
use Rattle.ns_types.specs.Ticket.{dev_eui}
use Rattle.ns_roster.specs.declared.Device.{Device}
use Rattle.ns_roster.specs.Network.{Network}
use Rattle.ns_roster.specs.Valid.{IsRoster}
use Rattle.ns_calls.specs.declared.call.Call.{Call}
use Rattle.ns_calls.specs.declared.call.Call.TheVariants as call
use Rattle.ns_calls.specs.declared.call.Reply.{Reply}
use Rattle.ns_calls.specs.declared.call.Reply.TheVariants as reply
use Rattle.ns_calls.specs.declared.call.Entry.{Entry}
use Rattle.ns_calls.specs.declared.answer.Answer.{Answer}
use Rattle.ns_calls.specs.Entries.{Opening, same_device, open_windows}
use Rattle.ns_calls.specs.History.{asks_for, open_window, open_tickets, is_ticket_open}
use Rattle.ns_calls.proofs.Says.{asking_in, is_ticket, asked-by}
use Rattle.ns_calls.specs.Shards.{shard_of_call}
use Rattle.ns_calls.specs.Out.{answer}
use Rattle.ns_calls.specs.Legal.{IsHistory, entry_for, with_call}
use Rattle.ns_calls.proofs.LocalLemmas.{bool_tells}
use Rattle.ns_calls.proofs.Lists.{All-weaker, find-has, find-none, at_some}
use Rattle.ns_calls.proofs.TicketLemmas.{same_ticket-eq}
use Rattle.ns_calls.proofs.NameLemmas.{same_window-eq}
use Rattle.ns_calls.proofs.JoinLemmas.{same_device-eq}
use Rattle.ns_calls.proofs.ShardLemmas.{Housed, IsOwn, open_windows-mine}
use Rattle.ns_calls.proofs.Merges.{replies_name_own_devices, by_place}
use Rattle.ns_calls.specs.declared.call.Outcome.{Outcome}
use Rattle.ns_sessions.specs.declared.decision.AnswerDecision.{AnswerDecision}
use Rattle.ns_sessions.specs.declared.decision.AnswerDecision.TheVariants as decision
use Rattle.ns_sessions.specs.Record.{answer_decision}
use Rattle.ns_sessions.specs.Laws.{concerns}
use Rattle.ns_sessions.proofs.JoinAnswers.{answers_agree}
use Rattle.ns_sessions.proofs.OpenTickets.{open_asked, at_member}
use Rattle.ns_sessions.proofs.Uplinks.{others_stay, closings_agree}
use Rattle.ns_windows.specs.declared.window.Window.{Window}
use Rattle.ns_windows.specs.Windows.{window_named, is_named, without}
use Rattle.ns_windows.proofs.Passing.{filter-none, none_found}
use Rattle.ns_devices.specs.declared.own.Own.{Own}
use Rattle.ns_shard.specs.Tables.{own_in, devices_in, window_of_opening}
use Rattle.ns_devices.specs.Devices.{devices_of, is_own, own_of, with_state, with_change_of, after_answer}
use Rattle.ns_shard.specs.State.{ends_open}
use Rattle.ns_shard.specs.declared.event.Ended.{Ended}
use Rattle.ns_shard.specs.declared.event.Ended.TheVariants.{Closed}
use Rattle.ns_shard.specs.Private.Room.{opens}
use Rattle.ns_shard.specs.Private.Reaction.{answer_ended, own_answer_ended, shard_answer_ended, ack_of, close_ended, with_closing}
use Rattle.ns_shard.specs.declared.parts.Parts.{Parts}
use Rattle.ns_shard.specs.Private.Parts.{Agrees, AreParts}
use Rattle.ns_shard.proofs.Maps.{find-map, some-of}
use Rattle.ns_shard.proofs.DeviceSteps.{devices-same}
use Rattle.ns_shard.proofs.WindowSteps.{windows-named}
use Rattle.ns_shard.proofs.PartSteps.{ended_or}
use Rattle.ns_shard.proofs.AnswerSteps.{answer-unknown, answer-answered, agrees-answer}
use Rattle.ns_shard.proofs.CloseSteps.{close-answered, agrees-close}
use Rattle.ns_shard.proofs.Totals.{is_some-map, is_some-none, ends, ends-found, answer-opens, close-opens}
use Rattle.std.proofs.lemmas.List.Elements.{filter_passes, recursion_from_All}
use Rattle.ns_devices.proofs.Positions.{change-nothing}

-- ---- whose it is

-- what asks for a ticket is a call of its device
asking-own : (k : ℕ) (t : Ticket) (c : Call) (r : Reply) → is_ticket t (asking_in c r) ≡ true → shard_of_call c ≡ k → shard_of (dev_eui t) ≡ k
asking-own k t =
    asked-by (λ d p. is_ticket t p ≡ true → shard_of_call d ≡ k → shard_of (dev_eui t) ≡ k) (λ d no mine. absurd (false≢true no))
    (λ u heard is mine. ap (λ (x : Ticket). shard_of (dev_eui x)) (same_ticket-eq t u is) ∙ mine)

asked-own : (k : ℕ) (t : Ticket) (h : List Entry) → AllByRecursion (λ e. shard_of_call e.call ≡ k) h → list_any (asks_for t) h ≡ true → shard_of (dev_eui t) ≡ k
asked-own k t [] mine is = absurd (false≢true is)
asked-own k t (e ∷ h) mine is =
    elim (bool_tells (asks_for t e)) [
      | inl here ↦ asking-own k t e.call e.reply here mine.0
      | inr later ↦ asked-own k t h mine.1 (subst (λ b. (b || list_any (asks_for t) h) ≡ true) later is)
    ]

-- a call that finds its window or ticket open is one of the shard
pub open-own : (net : Network) (index : ℕ) (h : List Entry) (c : Call) → IsRoster net → IsHistory net index h → ends_open h c ≡ true → shard_of_call c ≡ index
open-own net index h (call.Uplink frame heard) valid history is = absurd (false≢true is)
open-own net index h (call.Join t heard) valid history is = absurd (false≢true is)
open-own net index h (call.JoinReply t o) valid history is =
    asked-own index t h (by_place (λ e. shard_of_call e.call ≡ index) h history.own) (at_member (λ u. list_any (asks_for u) h ≡ true) t (open_tickets h) is (open_asked h))
open-own net index h (call.Close w) valid history is =
    let (o, here) = some-of (open_window h w) is in
    let all = open_windows-mine index h (by_place (λ e. Housed e × (shard_of_call e.call ≡ index)) h mine) in
    let found = at_some (λ (x : Opening). IsOwn index x × (same_window x.window w ≡ true)) (open_window h w) o here (find-has (IsOwn index) (λ (x : Opening). same_window x.window w) (open_windows h) all) in
    ap (λ (v : WindowName). shard_of v.eui) (sym (same_window-eq o.window w found.1)) ∙ found.0
  where
    mine : (n : ℕ) (e : Entry) → slice_get h n ≡ Some e → Housed e × (shard_of_call e.call ≡ index)
    mine n e at = (replies_name_own_devices net valid h history.legal n e at, history.own n e at)

-- a device of another shard is none of the shard's
pub foreign-none : (net : Network) (index : ℕ) (h : List Entry) (eui : DevEui) → (shard_of eui == index) ≡ false → own_of eui (devices_in net index h) ≡ None
foreign-none net index h eui foreign =
    find-map (own_in net h) (is_own eui) (devices_of net index)
    ∙ ap (option_map (own_in net h)) (find-none (λ (d : Device). same_device d.eui eui) (devices_of net index)
    (All-weaker (λ (d : Device). (shard_of d.eui == index) ≡ true) (λ (d : Device). same_device d.eui eui ≡ false) other (devices_of net index)
    (recursion_from_All (λ (d : Device). (shard_of d.eui == index) ≡ true) (devices_of net index) (filter_passes (λ (d : Device). shard_of d.eui == index) net.devices))))
  where
    other : (d : Device) → (shard_of d.eui == index) ≡ true → same_device d.eui eui ≡ false
    other d here =
        false_from_ne_true (same_device d.eui eui) (λ same. false≢true (sym foreign ∙ (ap (λ (e : DevEui). shard_of e == index) (sym (same_device-eq d.eui eui same)) ∙ here)))

-- ---- what ends

-- an answer ends something exactly where its ticket is open
answer-ends : (net : Network) (index : ℕ) (h : List Entry) (devices : List Own) (windows : List Window) (t : Ticket) (o : Outcome) → Agrees net index h devices windows → is_some (shard_answer_ended devices t o) ≡ is_ticket_open h t
answer-ends net index h devices windows t o agrees =
    elim (bool_tells (shard_of (dev_eui t) == index)) [
      | inl mine ↦
          (let here : shard_of (dev_eui t) ≡ index = grind (arith, nat_tests) in
          own-ends (own_of (dev_eui t) devices)
          ∙ (ap (λ (a : Answer). ends (call.JoinReply t o) a.reply) (answer-answered net index h devices windows t o agrees (answers_agree net h) here) ∙ ends-found net h (call.JoinReply t o)))
      | inr foreign ↦
          ap (λ (x : Option Own). is_some (option_and_then (own_answer_ended t o) x)) (ap (own_of (dev_eui t)) agrees.by_device ∙ foreign-none net index h (dev_eui t) foreign)
          ∙ sym (closed foreign)
    ]
  where
    decision-ends : (addr : DevAddr) (d : AnswerDecision) → is_some (answer_ended addr t o d) ≡ ends (call.JoinReply t o) (ended_or net reply.NoTicket (answer_ended addr t o d)).reply
    decision-ends addr decision.NoTicket = refl
    decision-ends addr decision.Refused = refl
    decision-ends addr (decision.Stale greatest) = refl
    decision-ends addr (decision.Accepted session heard) = refl

    own-ends : (x : Option Own) → is_some (option_and_then (own_answer_ended t o) x) ≡ ends (call.JoinReply t o) (ended_or net reply.NoTicket (option_and_then (own_answer_ended t o) x)).reply
    own-ends None = refl
    own-ends (Some own) = decision-ends own.addr (answer_decision own.state t o)

    closed : (shard_of (dev_eui t) == index) ≡ false → is_ticket_open h t ≡ false
    closed foreign =
        false_from_ne_true (is_ticket_open h t) (λ is.
        let mine : shard_of (dev_eui t) ≡ index = open-own net index h (call.JoinReply t o) agrees.valid agrees.history is in
        false≢true (sym foreign ∙ eq-eqb (shard_of (dev_eui t)) index mine))

-- ---- what each does

-- What an answer or a closing ends, the reply where that is nothing, and the devices and windows after it: where nothing is open, they stay.
pub record IsEnding (net : Network) (index : ℕ) (h : List Entry) (devices : List Own) (windows : List Window) (c : Call) (what : Option Ended) (r : Reply) (ds : List Own) (ws : List Window) : Type 0 where
  pub ends : is_some what ≡ ends_open h c
  pub opens_none : (x : Reply) → opens c x ≡ false
  pub told : shard_of_call c ≡ index → ended_or net r what ≡ answer net h c
  pub agrees : shard_of_call c ≡ index → Agrees net index (with_call net h (length h) c) ds ws
  pub devices_stay : ends_open h c ≡ false → ds ≡ devices
  pub windows_stay : ends_open h c ≡ false → ws ≡ windows

module _ (p : Parts) (are : AreParts p) where
  pub answer-ending : (t : Ticket) (o : Outcome) {ds : List Own} → ds ≡ with_change_of (dev_eui t) (after_answer t o) p.devices → IsEnding (arc_value p.roster) p.index are.history p.devices p.windows (call.JoinReply t o) (shard_answer_ended p.devices t o) reply.NoTicket ds p.windows
  answer-ending t o {ds} is = record {
    ends = answer-ends (arc_value p.roster) p.index are.history p.devices p.windows t o are.agrees;
    opens_none = answer-opens t o;
    told = λ own. answer-answered (arc_value p.roster) p.index are.history p.devices p.windows t o are.agrees (answers_agree (arc_value p.roster) are.history) own;
    agrees = λ own. subst (λ (v : List Own). Agrees (arc_value p.roster) p.index now v p.windows) (sym is) (after own);
    devices_stay = λ closed. is ∙ stays closed;
    windows_stay = λ closed. refl;
  }
    where
      now : List Entry
      now = with_call (arc_value p.roster) are.history (length are.history) (call.JoinReply t o)

      after : shard_of (dev_eui t) ≡ p.index → Agrees (arc_value p.roster) p.index now (with_change_of (dev_eui t) (after_answer t o) p.devices) p.windows
      after own = agrees-answer (arc_value p.roster) p.index are.history p.devices p.windows t o are.agrees others_stay (answers_agree (arc_value p.roster) are.history) own

      stays : is_ticket_open are.history t ≡ false → with_change_of (dev_eui t) (after_answer t o) p.devices ≡ p.devices
      stays closed =
          elim (bool_tells (shard_of (dev_eui t) == p.index)) [
            | inl mine ↦
                (let own : shard_of (dev_eui t) ≡ p.index = grind (arith, nat_tests) in
                (after own).by_device
                ∙ (devices-same (arc_value p.roster) p.index are.history now (λ eui. others_stay.others (arc_value p.roster) are.history (entry_for (arc_value p.roster) are.history (length are.history) (call.JoinReply t o)) eui (ap (λ (r : Reply). concerns eui (call.JoinReply t o) r) (answer-unknown (arc_value p.roster) are.history t o closed)))
                ∙ sym are.agrees.by_device))
            | inr foreign ↦ sym (change-nothing (is_own (dev_eui t)) (with_state (after_answer t o)) p.devices (ap (own_of (dev_eui t)) are.agrees.by_device ∙ foreign-none (arc_value p.roster) p.index are.history (dev_eui t) foreign))
          ]

  pub close-ending : (w : WindowName) {ds : List Own} {ws : List Window} → ds ≡ with_closing (window_named w p.windows) p.devices → ws ≡ without w p.windows →
      IsEnding (arc_value p.roster) p.index are.history p.devices p.windows (call.Close w) (close_ended p.devices (window_named w p.windows)) reply.NoWindow ds ws
  close-ending w {ds} {ws} devices_are windows_are = record {
    ends = is_some-map (λ (v : Window). Closed v (ack_of p.devices v)) (window_named w p.windows) ∙ found;
    opens_none = close-opens w;
    told = λ own. close-answered (arc_value p.roster) p.index are.history p.devices p.windows w are.agrees (closings_agree (arc_value p.roster) are.history) own;
    agrees = λ own.
        rw (devices_are, windows_are)
        (agrees-close (arc_value p.roster) p.index are.history p.devices p.windows w are.agrees others_stay (closings_agree (arc_value p.roster) are.history) own);
    devices_stay = λ closed. devices_are ∙ ap (λ (o : Option Window). with_closing o p.devices) (none closed);
    windows_stay = λ closed. windows_are ∙ filter-none (is_named w) p.windows (none_found (is_named w) p.windows (none closed));
  }
    where
      found : is_some (window_named w p.windows) ≡ is_some (open_window are.history w)
      found = ap (λ (o : Option Window). is_some o) (ap (window_named w) are.agrees.by_window ∙ windows-named are.history w) ∙ is_some-map (window_of_opening are.history) (open_window are.history w)

      none : is_some (open_window are.history w) ≡ false → window_named w p.windows ≡ None
      none closed = is_some-none (window_named w p.windows) (found ∙ closed)
