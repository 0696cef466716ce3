-- What a call gives and leaves, told of the devices and windows that a shard keeps.
use Rattle.std.specs.Prelude.{◌≡◌, IsSome, ℕ, ◌==◌, List, [], ◌∷◌, ◌++◌, length, Option, None, Some, option_map, option_and_then, if◌then◌else◌, not, is_some, ◌-◌}
use Rattle.std.specs.Option.{option_map_or}
use Rattle.ns_types.specs.declared.identity.DevAddr.{DevAddr}
use Rattle.ns_types.specs.declared.identity.Key.{Key}
use Rattle.ns_types.specs.declared.identity.WindowName.{WindowName}
use Rattle.ns_types.specs.declared.heard.Heard.{Heard}
use Rattle.ns_types.specs.declared.ticket.Ticket.{Ticket}
use Rattle.ns_types.specs.Cases.{when}
use Rattle.ns_types.specs.Ticket.{dev_eui, join_eui}
use Rattle.ns_views.specs.Frame.{is_confirmed}
use Rattle.ns_secure.specs.Counter.{above, below}
use Rattle.ns_calls.specs.declared.call.Outcome.{Outcome}
use Rattle.ns_calls.specs.declared.call.Outcome.TheVariants as outcome
use Rattle.ns_calls.specs.declared.call.Reply.{Reply}
use Rattle.ns_calls.specs.declared.call.Reply.TheVariants as reply
use Rattle.ns_calls.specs.declared.answer.Downlink.{Downlink}
use Rattle.ns_calls.specs.Reply.{Fit, window_of, in_round, UplinkFacts, unless_busy, old_reply, uplink_rule}
use Rattle.ns_calls.specs.Out.{accept_at}
use Rattle.ns_sessions.specs.declared.decision.AnswerDecision.{AnswerDecision}
use Rattle.ns_sessions.specs.declared.decision.AnswerDecision.TheVariants as decision
use Rattle.ns_sessions.specs.Record.{join_decision, answer_decision, ack_in, with_ack, with_uplink, with_round}
use Rattle.ns_sessions.specs.Laws.{join_decision_reply}
use Rattle.ns_windows.specs.declared.window.Window.{Window}
use Rattle.ns_windows.specs.declared.window.Addition.{Addition}
use Rattle.ns_windows.specs.declared.window.Addition.TheVariants as addition
use Rattle.ns_windows.specs.Windows.{new_window, with_copy_in, count, window_of_frame, window_named}
use Rattle.ns_devices.specs.declared.own.Own.{Own}
use Rattle.ns_shard.specs.declared.event.Ended.{Ended}
use Rattle.ns_shard.specs.declared.event.Ended.TheVariants.{Answered, Closed}
use Rattle.ns_devices.specs.Devices.{own_of, keys_in, with_change_of, first_own_fit, next_round}

-- ---- joins

-- the reply to a Join-Request of a device's EUI
abbrev pub own_join_reply : Ticket → Own → Reply
own_join_reply t o = if o.device.join_eui.0 == (join_eui t).0 then join_decision_reply t (join_decision o.state t) else reply.NoDevice

abbrev pub shard_join_reply : List Own → Ticket → Reply
shard_join_reply devices t = option_map_or (own_join_reply t) (own_of (dev_eui t) devices) reply.NoDevice

-- ---- answers to joins

-- the Join-Accept of an answer, at RX1 of a copy
abbrev pub accept_downlink : Outcome → Heard → Option Downlink
accept_downlink (outcome.Success join) heard = Some (accept_at join heard)
accept_downlink outcome.Failed heard = None

-- what the answer ends
abbrev pub answer_ended : DevAddr → Ticket → Outcome → AnswerDecision → Option Ended
answer_ended addr t o decision.NoTicket = None
answer_ended addr t o decision.Refused = Some (Answered reply.JoinRefused None)
answer_ended addr t o (decision.Stale greatest) = Some (Answered (reply.JoinStale greatest) None)
answer_ended addr t o (decision.Accepted session heard) = Some (Answered (reply.Accepted (dev_eui t) session addr) (accept_downlink o heard))

abbrev pub own_answer_ended : Ticket → Outcome → Own → Option Ended
own_answer_ended t outcome o = answer_ended o.addr t outcome (answer_decision o.state t outcome)

abbrev pub shard_answer_ended : List Own → Ticket → Outcome → Option Ended
shard_answer_ended devices t outcome = option_and_then (own_answer_ended t outcome) (own_of (dev_eui t) devices)

-- ---- closings

-- the acknowledgement number that a closing uses
abbrev pub ack_of : List Own → Window → Option ℕ
ack_of devices w = if is_confirmed w.frame then option_and_then (λ o. ack_in o.state w.name.session) (own_of w.name.eui devices) else None

abbrev pub with_shard_ack : Window → List Own → List Own
with_shard_ack w devices = if is_confirmed w.frame then with_change_of w.name.eui (with_ack w.name.session) devices else devices

-- what a closing ends
abbrev pub close_ended : List Own → Option Window → Option Ended
close_ended devices found = option_map (λ w. Closed w (ack_of devices w)) found

abbrev pub with_closing : Option Window → List Own → List Own
with_closing None devices = devices
with_closing (Some w) devices = with_shard_ack w devices

-- ---- uplinks

-- the reply to one more copy
abbrev pub added_reply : Addition → Reply
added_reply (addition.Copied name place) = reply.Copied name place
added_reply (addition.Crowded name) = reply.Crowded name

-- the round in which an uplink is acknowledged again: the next one, where the window of the round before it is closed
abbrev pub round_of : List Own → List Window → Fit → Option ℕ
round_of devices windows f = option_and_then (λ round. when (not (is_some (window_named (in_round f (round - 1)) windows))) round) (next_round devices f)

abbrev pub uplink_facts : List Own → List Window → List ℕ → UplinkFacts
uplink_facts devices windows frame = record {
  confirmed = is_confirmed frame;
  copied = option_map (λ w. (w.name, length w.copies.items)) (window_of_frame frame windows);
  above = option_map (λ f. (f, count f.eui windows)) (first_own_fit above frame devices);
  below = option_map (λ f. (f, count f.eui windows, round_of devices windows f)) (first_own_fit below frame devices);
}

abbrev pub uplink_reply : List Own → List Window → List ℕ → Reply
uplink_reply devices windows frame = uplink_rule (uplink_facts devices windows frame)

-- the reply where a frame fits above the greatest counter, and where at or below it
abbrev pub open_reply : List Window → Fit → Reply
open_reply windows f = unless_busy f.eui (count f.eui windows) (reply.Opened (window_of f))

abbrev pub again_reply : List Own → List Window → List ℕ → Fit → Reply
again_reply devices windows frame f = old_reply (is_confirmed frame) f (count f.eui windows) (round_of devices windows f)

-- what an uplink of this reply leaves
abbrev pub with_shard_uplink : Reply → List Own → List Own
with_shard_uplink (reply.Opened name) devices = with_change_of name.eui (with_uplink name.session name.fcnt) devices
with_shard_uplink (reply.Again name) devices = with_change_of name.eui (with_round name.session name.round) devices
with_shard_uplink _ devices = devices

abbrev pub with_window : List ℕ → Heard → WindowName → Option (Key × Option Key) → List Window → List Window
with_window frame heard name None windows = windows
with_window frame heard name (Some keys) windows = windows ++ new_window frame heard name keys ∷ []

abbrev pub with_copy_or_window : Reply → List ℕ → Heard → List Own → List Window → List Window
with_copy_or_window (reply.Opened name) frame heard devices windows = with_window frame heard name (keys_in devices name) windows
with_copy_or_window (reply.Again name) frame heard devices windows = with_window frame heard name (keys_in devices name) windows
with_copy_or_window (reply.Copied name place) frame heard devices windows = with_copy_in name heard windows
with_copy_or_window (reply.Crowded name) frame heard devices windows = with_copy_in name heard windows
with_copy_or_window _ frame heard devices windows = windows

-- the window's session has keys, and no open window has the name
pub record HasPlace (devices : List Own) (windows : List Window) (name : WindowName) : Type 0 where
  pub keys : IsSome (keys_in devices name)
  pub apart : window_named name windows ≡ None

-- what is opened can be opened, and what is opened again too
pub record CanOpen (devices : List Own) (windows : List Window) (frame : List ℕ) : Type 0 where
  pub place : (name : WindowName) → uplink_reply devices windows frame ≡ reply.Opened name → HasPlace devices windows name
  pub again : (name : WindowName) → uplink_reply devices windows frame ≡ reply.Again name → HasPlace devices windows name
