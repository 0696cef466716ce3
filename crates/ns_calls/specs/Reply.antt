-- The plain server: the reply to a call, from the roster and the entries before it.
use Rattle.std.specs.Prelude.{ℕ, ◌+◌, ◌^◌, Bool, true, false, not, ◌&&◌, ◌==◌, nat_le, nat_lt, List, [], ◌∷◌, length, filter, filter_map, find, Option, None, Some, option_map, option_and_then, unwrap_or, bytes_eq, if◌then◌else◌}
use Rattle.ns_types.specs.declared.identity.DevEui.{DevEui}
use Rattle.ns_types.specs.declared.identity.DevAddr.{DevAddr}
use Rattle.ns_types.specs.declared.identity.WindowName.{WindowName}
use Rattle.ns_types.specs.declared.identity.Key.{Key}
use Rattle.ns_types.specs.declared.ticket.Ticket.{Ticket}
use Rattle.ns_types.specs.Cases.{first_case, when}
use Rattle.ns_types.specs.Ticket.{dev_eui, join_eui, nonce}
use Rattle.ns_views.specs.Frame.{data_fields, is_confirmed}
use Rattle.ns_secure.specs.Counter.{above, below}
use Rattle.ns_secure.specs.Integrity.{mic_fits}
use Rattle.ns_roster.specs.declared.Device.{Device}
use Rattle.ns_roster.specs.Network.{Network, device, device_addr, is_known}
use Rattle.ns_calls.specs.declared.call.Outcome.{Outcome}
use Rattle.ns_calls.specs.declared.call.Outcome.TheVariants.{Failed, Success}
use Rattle.ns_calls.specs.declared.call.Call.{Call}
use Rattle.ns_calls.specs.declared.call.Call.TheVariants as call
use Rattle.ns_calls.specs.declared.call.Reply.{Reply}
use Rattle.ns_calls.specs.declared.call.Reply.TheVariants.{Opened, Copied, Crowded, Old, NoSession, Busy, Ask, JoinCopied, JoinCrowded, NonceOld, NoDevice, JoinBusy, Accepted, JoinRefused, JoinStale, NoTicket, Closed, NoWindow, Again}
use Rattle.ns_calls.specs.declared.call.Entry.{Entry}
use Rattle.ns_calls.specs.Queries.{first}
use Rattle.ns_calls.specs.Entries.{Opening, open_windows, most_copies}
use Rattle.ns_calls.specs.History.{greatest_nonce, next_session, session_join, live, is_live, greatest_counter, first_window, last_round, next_ack_number, open_window, is_uplink_open, window_count, window_copies, is_ticket_open, ticket_count, ticket_copies}

-- how many windows and how many tickets of a device are open at most
abbrev pub most_windows : ℕ
most_windows = 8

abbrev pub most_tickets : ℕ
most_tickets = 4

-- ---- an uplink

-- where a frame's MIC fits (LoRaWAN L2 1.0.4, 4.4)
pub record Fit : Type 0 where
  pub eui : DevEui
  pub session : ℕ
  pub counter : ℕ

abbrev pub fit_of : DevEui → ℕ → ℕ → Fit
fit_of eui session counter = record { eui = eui; session = session; counter = counter }

-- the counter that recover gives after the greatest one, where the MIC fits there under the session's NwkSKey
abbrev pub fitting_counter : (Option ℕ → ℕ → Option ℕ) → List ℕ → Key → Option ℕ → Option ℕ
fitting_counter recover frame nwk greatest = option_and_then (λ counter. when (mic_fits frame nwk.0 counter) counter) (recover greatest (data_fields frame).fcnt16)

-- where the frame fits in a session
abbrev pub session_fit : (Option ℕ → ℕ → Option ℕ) → List Entry → List ℕ → DevEui → ℕ → Option Fit
session_fit recover h frame eui session =
    option_map (fit_of eui session)
    (option_and_then (λ join. fitting_counter recover frame join.nwk (greatest_counter h eui session)) (session_join h eui session))

-- where it fits first among the live sessions of a device
abbrev pub device_fit : (Option ℕ → ℕ → Option ℕ) → List Entry → List ℕ → DevEui → Option Fit
device_fit recover h frame eui = first (filter_map (session_fit recover h frame eui) (live h eui))

-- the devices with an address, in the roster's order
abbrev pub devices_at : Network → ℕ → List Device
devices_at net addr = filter (λ d. (device_addr net d).0 == addr) net.devices

-- where it fits first among the devices with its address
abbrev pub first_fit : (Option ℕ → ℕ → Option ℕ) → Network → List Entry → List ℕ → Option Fit
first_fit recover net h frame = first (filter_map (λ d. device_fit recover h frame d.eui) (devices_at net (data_fields frame).addr))

-- the open window of an equal frame
abbrev pub window_with : List Entry → List ℕ → Option Opening
window_with h frame = find (λ o. bytes_eq o.frame frame) (open_windows h)

-- the first window where a frame fits, and that of a later round
abbrev pub window_of : Fit → WindowName
window_of f = first_window f.eui f.session f.counter

abbrev pub in_round : Fit → ℕ → WindowName
in_round f round = record { eui = f.eui; session = f.session; fcnt = f.counter; round = round }

-- whether a counter is the greatest one
abbrev pub is_greatest : Option ℕ → ℕ → Bool
is_greatest None counter = false
is_greatest (Some greatest) counter = greatest == counter

-- the next round of an uplink with the greatest counter of its session, where there is one of 32 bits
abbrev pub next_round : List Entry → Fit → Option ℕ
next_round h f =
    let round = last_round h (window_of f) + 1 in when (is_greatest (greatest_counter h f.eui f.session) f.counter && nat_lt round (2 ^ 32)) round

-- the round in which an uplink is acknowledged again: the next one, where no window of it is open
abbrev pub round_of : List Entry → Fit → Option ℕ
round_of h f = if is_uplink_open h (window_of f) then None else next_round h f

-- What the reply to an uplink rests on: the open window of an equal frame, with the number of its copies; where the frame fits first above
-- a session's greatest counter, and where at or below one, with the number of open windows of its device, and below with the round.
pub record UplinkFacts : Type 0 where
  pub confirmed : Bool
  pub copied : Option (WindowName × ℕ)
  pub above : Option (Fit × ℕ)
  pub below : Option (Fit × ℕ × Option ℕ)

-- one more copy of an open window
abbrev pub copy_reply : WindowName → ℕ → Reply
copy_reply w copies = if nat_lt copies most_copies then Copied w (copies + 1) else Crowded w

-- the reply with which a window is opened, where its device has room for it
abbrev pub unless_busy : DevEui → ℕ → Reply → Reply
unless_busy eui windows reply = if nat_le most_windows windows then Busy eui else reply

-- a frame at or below the greatest counter: where it is a Confirmed Data Up and has a round, it is acknowledged again (4.3.1.2)
abbrev pub old_reply : Bool → Fit → ℕ → Option ℕ → Reply
old_reply confirmed f windows round =
    first_case (option_map (λ n. unless_busy f.eui windows (Again (in_round f n))) (if confirmed then round else None) ∷ []) (Old f.eui f.session f.counter)

abbrev pub uplink_rule : UplinkFacts → Reply
uplink_rule facts = first_case (
    option_map (λ c. copy_reply c.0 c.1) facts.copied
    ∷ option_map (λ a. unless_busy a.0.eui a.1 (Opened (window_of a.0))) facts.above
    ∷ option_map (λ b. old_reply facts.confirmed b.0 b.1 b.2) facts.below
    ∷ []) NoSession

abbrev pub uplink_facts : Network → List Entry → List ℕ → UplinkFacts
uplink_facts net h frame = record {
  confirmed = is_confirmed frame;
  copied = option_map (λ o. (o.window, length (window_copies h o.window))) (window_with h frame);
  above = option_map (λ f. (f, window_count h f.eui)) (first_fit above net h frame);
  below = option_map (λ f. (f, window_count h f.eui, round_of h f)) (first_fit below net h frame);
}

abbrev pub reply_to_uplink : Network → List Entry → List ℕ → Reply
reply_to_uplink net h frame = uplink_rule (uplink_facts net h frame)

-- ---- a join

-- the greatest number, where this one is at most that
abbrev pub at_or_above : Option ℕ → ℕ → Option ℕ
at_or_above greatest n = option_and_then (λ g. when (nat_le n g) g) greatest

-- what the reply to a Join-Request rests on: copies are those of the ticket, where it is open, and tickets the open ones of the device
pub record JoinFacts : Type 0 where
  pub known : Bool
  pub greatest : Option ℕ
  pub copies : Option ℕ
  pub tickets : ℕ

-- one more copy of an open ticket
abbrev pub join_copy_reply : ℕ → Reply
join_copy_reply copies = if nat_lt copies most_copies then JoinCopied (copies + 1) else JoinCrowded

abbrev pub join_rule : Ticket → JoinFacts → Reply
join_rule t facts = first_case (
    when (not facts.known) NoDevice
    ∷ option_map (λ g. NonceOld (record { 0 = g })) (at_or_above facts.greatest (nonce t).0)
    ∷ option_map join_copy_reply facts.copies
    ∷ when (nat_le most_tickets facts.tickets) JoinBusy
    ∷ []) (Ask t)

abbrev pub join_facts : Network → List Entry → Ticket → JoinFacts
join_facts net h t = record {
  known = is_known net (dev_eui t) (join_eui t);
  greatest = greatest_nonce net h (dev_eui t);
  copies = when (is_ticket_open h t) (length (ticket_copies h t));
  tickets = ticket_count h (dev_eui t);
}

abbrev pub reply_to_join : Network → List Entry → Ticket → Reply
reply_to_join net h t = join_rule t (join_facts net h t)

-- ---- the answer to a join

-- the device's address: an open ticket's device is one of the roster's
abbrev pub address : Network → DevEui → DevAddr
address net eui = unwrap_or (option_map (device_addr net) (device net eui)) (record { 0 = 0 })

abbrev pub is_failed : Outcome → Bool
is_failed Failed = true
is_failed (Success join_ans) = false

-- what the reply to a join server's answer rests on: session is the number of the device's next one, and addr its address
pub record AnswerFacts : Type 0 where
  pub is_open : Bool
  pub failed : Bool
  pub greatest : Option ℕ
  pub session : ℕ
  pub addr : DevAddr

abbrev pub answer_rule : Ticket → AnswerFacts → Reply
answer_rule t facts = first_case (
    when (not facts.is_open) NoTicket
    ∷ when facts.failed JoinRefused
    ∷ option_map (λ g. JoinStale (record { 0 = g })) (at_or_above facts.greatest (nonce t).0)
    ∷ []) (Accepted (dev_eui t) facts.session facts.addr)

abbrev pub answer_facts : Network → List Entry → Ticket → Outcome → AnswerFacts
answer_facts net h t outcome = record {
  is_open = is_ticket_open h t;
  failed = is_failed outcome;
  greatest = greatest_nonce net h (dev_eui t);
  session = next_session h (dev_eui t);
  addr = address net (dev_eui t);
}

abbrev pub reply_to_join_reply : Network → List Entry → Ticket → Outcome → Reply
reply_to_join_reply net h t outcome = answer_rule t (answer_facts net h t outcome)

-- ---- a closing

-- the number of the acknowledgement, where one is owed and there is a number for it
abbrev pub ack_number : List Entry → Opening → Option ℕ
ack_number h o =
    if is_confirmed o.frame && is_live h o.window.eui o.window.session then next_ack_number h o.window.eui o.window.session else None

abbrev pub reply_to_close : List Entry → WindowName → Reply
reply_to_close h w = first_case (option_map (λ o. Closed w (ack_number h o)) (open_window h w) ∷ []) NoWindow

-- ---- any call

abbrev pub reply_to : Network → List Entry → Call → Reply
reply_to net h (call.Uplink frame heard) = reply_to_uplink net h frame
reply_to net h (call.Join ticket heard) = reply_to_join net h ticket
reply_to net h (call.JoinReply ticket outcome) = reply_to_join_reply net h ticket outcome
reply_to net h (call.Close window) = reply_to_close h window
