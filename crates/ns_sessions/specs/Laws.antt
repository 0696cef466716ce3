-- What the state of a device has to do with the history of its shard: each call says what the plain server replies, and leaves what
-- the history says with the new entry.
use Rattle.std.specs.Prelude.{◌≡◌, ◌≤◌, ℕ, Bool, true, false, List, [], ◌∷◌, ◌++◌, Option, None, Some, option_map, if◌then◌else◌}
use Rattle.ns_types.specs.declared.identity.DevEui.{DevEui}
use Rattle.ns_types.specs.declared.identity.WindowName.{WindowName}
use Rattle.ns_types.specs.declared.heard.Heard.{Heard}
use Rattle.ns_types.specs.declared.ticket.Ticket.{Ticket}
use Rattle.ns_types.specs.Heard.{best}
use Rattle.ns_types.specs.Ticket.{dev_eui, join_eui}
use Rattle.ns_views.specs.Frame.{is_confirmed}
use Rattle.ns_roster.specs.Network.{Network, is_known}
use Rattle.ns_calls.specs.declared.call.Outcome.{Outcome}
use Rattle.ns_calls.specs.declared.call.Call.{Call}
use Rattle.ns_calls.specs.declared.call.Call.TheVariants as call
use Rattle.ns_calls.specs.declared.call.Reply.{Reply}
use Rattle.ns_calls.specs.declared.call.Reply.TheVariants as reply
use Rattle.ns_calls.specs.declared.call.Entry.{Entry}
use Rattle.ns_calls.specs.Entries.{Opening, same_device, Said, Opens, OpensAgain, Closes, Asks, CopiesJoin, Accepts, Refuses, said}
use Rattle.ns_calls.specs.History.{is_live, greatest_counter, last_round, ticket_copies, last_nonce}
use Rattle.ns_calls.specs.Reply as plain
use Rattle.ns_calls.specs.Reply.{Fit, fit_of, next_round, address, ack_number, reply_to_join, reply_to_join_reply}
use Rattle.ns_calls.specs.Legal.{IsLegal, entry_of, with_call}
use Rattle.ns_sessions.specs.declared.decision.JoinDecision.{JoinDecision}
use Rattle.ns_sessions.specs.declared.decision.JoinDecision.TheVariants as join
use Rattle.ns_sessions.specs.declared.decision.AnswerDecision.{AnswerDecision}
use Rattle.ns_sessions.specs.declared.decision.AnswerDecision.TheVariants as answer
use Rattle.ns_sessions.specs.Record.{no_joins, device_record, device_fit, session_in, IsNewCounter, with_uplink, next_round_in, with_round, ack_in, with_ack, join_decision, with_join, answer_decision, with_reply}
use Rattle.std.specs.Option.{option_map_or}

-- ---- entries that say nothing of a device

-- the device of which an entry changes what a history says
abbrev pub changed : Said → Option DevEui
changed (Opens o) = Some o.window.eui
changed (OpensAgain o) = Some o.window.eui
changed (Closes c) = option_map (λ n. c.window.eui) c.ack
changed (Asks t heard) = Some (dev_eui t)
changed (CopiesJoin t heard) = Some (dev_eui t)
changed (Accepts t session outcome) = Some (dev_eui t)
changed (Refuses t) = Some (dev_eui t)
changed _ = None

abbrev pub concerns : DevEui → Call → Reply → Bool
concerns eui call reply = option_map_or (λ d. same_device d eui) (changed (said call reply)) false

-- a history of no entries says that the device has not joined; an entry that does not concern a device leaves what is said of it
pub record OthersStay : Type 0 where
  pub none : (net : Network) (eui : DevEui) → device_record net [] eui ≡ no_joins (last_nonce net eui)
  pub others : (net : Network) (h : List Entry) (e : Entry) (eui : DevEui) → concerns eui e.call e.reply ≡ false → device_record net (h ++ e ∷ []) eui ≡ device_record net h eui

-- ---- uplinks

-- A frame fits where the plain server says, and an uplink that is opened changes the state as `take` does. A counter of a live session has
-- the next round that the plain server says, and an uplink that is opened again changes the state as `open_again` does.
pub record UplinksAgree (net : Network) (h : List Entry) : Type 0 where
  pub fits : (recover : Option ℕ → ℕ → Option ℕ) (frame : List ℕ) (eui : DevEui) →
      option_map (λ f. fit_of eui f.0 f.1) (device_fit recover frame (device_record net h eui)) ≡ plain.device_fit recover h frame eui
  pub records : IsLegal net h → (number : ℕ) (frame : List ℕ) (heard : Heard) (w : WindowName) → w.round ≡ 1 → IsNewCounter (session_in (device_record net h w.eui) w.session) w.fcnt →
      with_uplink w.session w.fcnt (device_record net h w.eui) ≡ device_record net (h ++ entry_of number (call.Uplink frame heard) (reply.Opened w) ∷ []) w.eui
  pub rounds : IsLegal net h → (f : Fit) → is_live h f.eui f.session ≡ true → next_round_in (device_record net h f.eui) f.session f.counter ≡ next_round h f
  pub again : (number : ℕ) (frame : List ℕ) (heard : Heard) (w : WindowName) → greatest_counter h w.eui w.session ≡ Some w.fcnt → last_round h w ≤ w.round →
      with_round w.session w.round (device_record net h w.eui) ≡ device_record net (h ++ entry_of number (call.Uplink frame heard) (reply.Again w) ∷ []) w.eui

-- ---- acknowledgements

-- A closing bears the session's next number where one is owed, and with that number it changes the state as `next_ack` does.
pub record ClosingsAgree (net : Network) (h : List Entry) : Type 0 where
  pub numbers : IsLegal net h → (o : Opening) → ack_number h o ≡ (if is_confirmed o.frame then ack_in (device_record net h o.window.eui) o.window.session else None)
  pub records : (number : ℕ) (w : WindowName) (ack : ℕ) → ack_in (device_record net h w.eui) w.session ≡ Some ack →
      with_ack w.session (device_record net h w.eui) ≡ device_record net (h ++ entry_of number (call.Close w) (reply.Closed w (Some ack)) ∷ []) w.eui

-- ---- joins

-- the reply that a decision stands for
abbrev pub join_decision_reply : Ticket → JoinDecision → Reply
join_decision_reply t join.Ask = reply.Ask t
join_decision_reply t (join.Copied place) = reply.JoinCopied place
join_decision_reply t join.Crowded = reply.JoinCrowded
join_decision_reply t (join.Old greatest) = reply.NonceOld greatest
join_decision_reply t join.Busy = reply.JoinBusy

pub record JoinsAgree (net : Network) (h : List Entry) : Type 0 where
  pub replies : (t : Ticket) → is_known net (dev_eui t) (join_eui t) ≡ true → join_decision_reply t (join_decision (device_record net h (dev_eui t)) t) ≡ reply_to_join net h t
  pub records : IsLegal net h → (number : ℕ) (t : Ticket) (heard : Heard) → is_known net (dev_eui t) (join_eui t) ≡ true →
      let r = device_record net h (dev_eui t) in with_join (join_decision r t) t heard r ≡ device_record net (with_call net h number (call.Join t heard)) (dev_eui t)

-- ---- answers of join servers

abbrev pub answer_decision_reply : Network → Ticket → AnswerDecision → Reply
answer_decision_reply net t answer.NoTicket = reply.NoTicket
answer_decision_reply net t answer.Refused = reply.JoinRefused
answer_decision_reply net t (answer.Stale greatest) = reply.JoinStale greatest
answer_decision_reply net t (answer.Accepted session heard) = reply.Accepted (dev_eui t) session (address net (dev_eui t))

pub record AnswersAgree (net : Network) (h : List Entry) : Type 0 where
  pub replies : (t : Ticket) (outcome : Outcome) → answer_decision_reply net t (answer_decision (device_record net h (dev_eui t)) t outcome) ≡ reply_to_join_reply net h t outcome
  pub copies : (t : Ticket) (outcome : Outcome) (session : ℕ) (heard : Heard) →
      answer_decision (device_record net h (dev_eui t)) t outcome ≡ answer.Accepted session heard → best (ticket_copies h t) ≡ Some heard
  pub records : IsLegal net h → (number : ℕ) (t : Ticket) (outcome : Outcome) →
      let r = device_record net h (dev_eui t) in with_reply (answer_decision r t outcome) t outcome r ≡ device_record net (with_call net h number (call.JoinReply t outcome)) (dev_eui t)
