-- The devices of a shard, what is asked of them, and how they change.
use Rattle.std.specs.List.{list_any}
use Rattle.std.specs.Option.{option_map_or, is_some}
use Rattle.std.specs.Prelude.{ℕ, Bool, false, ◌==◌, List, [], ◌∷◌, filter, filter_map, find, Option, IfSome, option_map, option_and_then, if◌then◌else◌}
use Rattle.ns_types.specs.declared.identity.DevAddr.{DevAddr}
use Rattle.ns_types.specs.declared.identity.DevEui.{DevEui}
use Rattle.ns_types.specs.declared.identity.Key.{Key}
use Rattle.ns_types.specs.declared.identity.WindowName.{WindowName}
use Rattle.ns_types.specs.declared.heard.Heard.{Heard}
use Rattle.ns_types.specs.declared.ticket.Ticket.{Ticket}
use Rattle.ns_types.specs.Cases.{when}
use Rattle.ns_types.specs.Identity.{shard_of}
use Rattle.ns_types.specs.Ticket.{dev_eui, join_eui}
use Rattle.ns_views.specs.Frame.{data_fields}
use Rattle.ns_roster.specs.declared.Device.{Device}
use Rattle.ns_roster.specs.Network.{Network, device_addr}
use Rattle.ns_calls.specs.declared.call.Outcome.{Outcome}
use Rattle.ns_calls.specs.Queries.{first}
use Rattle.ns_calls.specs.Entries.{same_device}
use Rattle.ns_calls.specs.History.{same_ticket}
use Rattle.ns_calls.specs.Reply.{Fit, fit_of}
use Rattle.ns_sessions.specs.declared.decision.JoinDecision.{JoinDecision}
use Rattle.ns_sessions.specs.declared.decision.AnswerDecision.{AnswerDecision}
use Rattle.ns_sessions.specs.Record.{DeviceRecord, no_joins, session_in, IsNewCounter, next_round_in, device_fit, join_decision, with_join, answer_decision, with_reply}
use Rattle.ns_devices.specs.declared.own.Own.{Own}
use Rattle.ns_devices.specs.declared.own.Placed.{Placed}

-- the devices of a shard, in the roster's order
abbrev pub devices_of : Network → ℕ → List Device
devices_of net index = filter (λ d. shard_of d.eui == index) net.devices

abbrev pub own : Network → DeviceRecord → Device → Own
own net state d = record { device = d; addr = device_addr net d; state = state }

-- a device that has not joined, with its last nonce
abbrev pub joinless : Network → Device → Own
joinless net d = own net (no_joins (option_map (λ n. n.0) d.last_nonce)) d

-- ---- what is asked

abbrev pub is_own : DevEui → Own → Bool
is_own eui o = same_device o.device.eui eui

-- the device of an EUI
abbrev pub own_of : DevEui → List Own → Option Own
own_of eui devices = find (is_own eui) devices

-- the keys of a window's session, where it lives
abbrev pub keys_in : List Own → WindowName → Option (Key × Option Key)
keys_in devices name = option_and_then (λ o. option_map (λ s. (s.nwk, s.app)) (session_in o.state name.session)) (own_of name.eui devices)

-- whether a session of a device lives
abbrev pub lives_in : List Own → DevEui → ℕ → Bool
lives_in devices eui session = option_map_or (λ o. is_some (session_in o.state session)) (own_of eui devices) false

-- whether a ticket is open
abbrev pub has_ticket_in : List Own → Ticket → Bool
has_ticket_in devices t = option_map_or (λ o. list_any (λ x. same_ticket t x.ticket) o.state.tickets) (own_of (dev_eui t) devices) false

-- the next round of an uplink with the greatest counter of a session that lives
abbrev pub next_round : List Own → Fit → Option ℕ
next_round devices f = option_and_then (λ o. next_round_in o.state f.session f.counter) (own_of f.eui devices)

-- where a frame fits in a device's sessions
abbrev pub own_fit : (Option ℕ → ℕ → Option ℕ) → List ℕ → Own → Option Fit
own_fit recover frame o = option_map (λ p. fit_of o.device.eui p.0 p.1) (device_fit recover frame o.state)

-- that, without the place of the device
abbrev pub fit_at : Placed → Fit
fit_at f = fit_of f.eui f.session f.counter

abbrev pub is_addressed : List ℕ → Own → Bool
is_addressed frame o = o.addr.0 == (data_fields frame).addr

-- where it fits first among the devices with its address
abbrev pub first_own_fit : (Option ℕ → ℕ → Option ℕ) → List ℕ → List Own → Option Fit
first_own_fit recover frame devices = first (filter_map (own_fit recover frame) (filter (is_addressed frame) devices))

-- a window's counter is above those of its session, which lives, where there is a device of its EUI
abbrev pub IsNew : List Own → WindowName → Type 0
IsNew devices name = IfSome (own_of name.eui devices) (λ o. IsNewCounter (session_in o.state name.session) name.fcnt)

-- what comes of a Join-Request, where a device has its DevEUI and JoinEUI
abbrev pub own_join_decision : Ticket → Own → Option JoinDecision
own_join_decision t o = when (o.device.join_eui.0 == (join_eui t).0) (join_decision o.state t)

abbrev pub join_decision_of : List Own → Ticket → Option JoinDecision
join_decision_of devices t = option_and_then (own_join_decision t) (own_of (dev_eui t) devices)

-- what comes of the answer to a join, with the device's address
abbrev pub answer_decision_of : List Own → Ticket → Outcome → Option (DevAddr × AnswerDecision)
answer_decision_of devices t outcome = option_map (λ o. (o.addr, answer_decision o.state t outcome)) (own_of (dev_eui t) devices)

-- ---- changes

-- a change of the first element that passes
abbrev pub change_first : {X : Type 0} → (X → Bool) → (X → X) → List X → List X
change_first test f [] = []
change_first test f (x ∷ xs) = if test x then f x ∷ xs else x ∷ change_first test f xs

abbrev pub with_state : (DeviceRecord → DeviceRecord) → Own → Own
with_state f o = record o { state = f o.state }

abbrev pub with_change_of : DevEui → (DeviceRecord → DeviceRecord) → List Own → List Own
with_change_of eui f devices = change_first (is_own eui) (with_state f) devices

-- what a Join-Request and an answer to one change
abbrev pub after_join : Ticket → Heard → DeviceRecord → DeviceRecord
after_join t heard r = with_join (join_decision r t) t heard r

abbrev pub with_own_join : Ticket → Heard → Own → Own
with_own_join t heard o = if o.device.join_eui.0 == (join_eui t).0 then with_state (after_join t heard) o else o

abbrev pub with_join_of : Ticket → Heard → List Own → List Own
with_join_of t heard devices = change_first (is_own (dev_eui t)) (with_own_join t heard) devices

abbrev pub after_answer : Ticket → Outcome → DeviceRecord → DeviceRecord
after_answer t outcome r = with_reply (answer_decision r t outcome) t outcome r
