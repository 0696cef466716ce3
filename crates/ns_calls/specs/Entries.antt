-- What single entries say of sessions and windows, and what a history lists of them: all that rests on no rule of a reply. A history is a
-- list of entries, the earliest first.
use Rattle.std.specs.Prelude.{ℕ, Bool, false, not, ◌==◌, List, [], ◌∷◌, ◌++◌, map, filter, filter_map, Option, None, Some, option_to_list}
use Rattle.std.specs.List.{list_any}
use Rattle.std.specs.Option.{option_map_or}
use Rattle.ns_types.specs.declared.identity.DevEui.{DevEui}
use Rattle.ns_types.specs.declared.identity.WindowName.{WindowName}
use Rattle.ns_types.specs.declared.heard.Heard.{Heard}
use Rattle.ns_types.specs.declared.ticket.Ticket.{Ticket}
use Rattle.ns_types.specs.Identity.{same_window}
use Rattle.ns_types.specs.Ticket.{dev_eui}
use Rattle.ns_calls.specs.declared.call.JoinAns.{JoinAns}
use Rattle.ns_calls.specs.declared.call.Outcome.{Outcome}
use Rattle.ns_calls.specs.declared.call.Outcome.TheVariants.{Success}
use Rattle.ns_calls.specs.declared.call.Call.{Call}
use Rattle.ns_calls.specs.declared.call.Call.TheVariants as call
use Rattle.ns_calls.specs.declared.call.Reply.{Reply}
use Rattle.ns_calls.specs.declared.call.Reply.TheVariants as reply
use Rattle.ns_calls.specs.declared.call.Entry.{Entry}

-- how many copies a window or a ticket has at most
abbrev pub most_copies : ℕ
most_copies = 16

-- ---- what single entries say

-- a join that was accepted
pub record Acceptance : Type 0 where
  pub eui : DevEui
  pub session : ℕ
  pub ticket : Ticket
  pub join_ans : JoinAns

-- an uplink, and the window that is opened for it
pub record Opening : Type 0 where
  pub window : WindowName
  pub frame : List ℕ
  pub heard : Heard

-- a window that was closed, with its acknowledgement number
pub record Closing : Type 0 where
  pub window : WindowName
  pub ack : Option ℕ

-- what an entry says: of a window, which is opened for a new counter or again in a later round, or of a ticket
pub data Said : Type 0 where
  Opens : Opening → Said
  OpensAgain : Opening → Said
  Copies : WindowName → Heard → Said
  Closes : Closing → Said
  Asks : Ticket → Heard → Said
  CopiesJoin : Ticket → Heard → Said
  Accepts : Ticket → ℕ → Outcome → Said
  Refuses : Ticket → Said
  Nothing : Said

-- A device, a ticket or a window that the call names is read there and not in the reply: in a legal history the two agree, and what an
-- entry says is its own shard's, whatever its reply.
abbrev pub said : Call → Reply → Said
said (call.Uplink frame heard) (reply.Opened window) = Opens (record { window = window; frame = frame; heard = heard })
said (call.Uplink frame heard) (reply.Again window) = OpensAgain (record { window = window; frame = frame; heard = heard })
said (call.Uplink frame heard) (reply.Copied window place) = Copies window heard
said (call.Close window) (reply.Closed closed ack) = Closes (record { window = window; ack = ack })
said (call.Join ticket heard) (reply.Ask asked) = Asks ticket heard
said (call.Join ticket heard) (reply.JoinCopied place) = CopiesJoin ticket heard
said (call.JoinReply ticket outcome) (reply.Accepted eui session addr) = Accepts ticket session outcome
said (call.JoinReply ticket outcome) reply.JoinRefused = Refuses ticket
said (call.JoinReply ticket outcome) (reply.JoinStale greatest) = Refuses ticket
said _ _ = Nothing

-- a part of what an entry says
abbrev pub says : {Y : Type 0} → (Said → Option Y) → Entry → Option Y
says part e = part (said e.call e.reply)

abbrev pub accepted : Said → Option Acceptance
accepted (Accepts ticket session (Success join_ans)) = Some (record { eui = dev_eui ticket; session = session; ticket = ticket; join_ans = join_ans })
accepted _ = None

-- the first window of an uplink with a new counter: counters and live sessions look at these
abbrev pub first_opened : Said → Option Opening
first_opened (Opens o) = Some o
first_opened _ = None

-- the window of any round: open windows look at these
abbrev pub opened : Said → Option Opening
opened (Opens o) = Some o
opened (OpensAgain o) = Some o
opened _ = None

abbrev pub closed : Said → Option Closing
closed (Closes c) = Some c
closed _ = None

-- whether an entry closes a window
abbrev pub closes : WindowName → Entry → Bool
closes w e = option_map_or (λ c. same_window c.window w) (says closed e) false

-- ---- what a history lists

abbrev pub same_device : DevEui → DevEui → Bool
same_device d e = d.0 == e.0

-- the joins of a device that were accepted and its openings, in order
abbrev pub acceptances : List Entry → DevEui → List Acceptance
acceptances h eui = filter (λ a. same_device a.eui eui) (filter_map (says accepted) h)

abbrev pub openings : List Entry → DevEui → List Opening
openings h eui = filter (λ o. same_device o.window.eui eui) (filter_map (says first_opened) h)

-- the counters opened in a session, in order
abbrev pub session_counters : List Entry → DevEui → ℕ → List ℕ
session_counters h eui session = map (λ o. o.window.fcnt) (filter (λ o. o.window.session == session) (openings h eui))

-- whether an element of the list ends x
abbrev pub is_ended : {E X : Type 0} → (X → E → Bool) → List E → X → Bool
is_ended ends after x = list_any (ends x) after

-- What an entry opened and no entry after it ended, in order of opening.
-- opens says what an entry opens, and ends x whether an entry ends x.
abbrev pub still_open : {E X : Type 0} → (E → Option X) → (X → E → Bool) → List E → List X
still_open opens ends [] = []
still_open opens ends (entry ∷ after) = filter (λ x. not (is_ended ends after x)) (option_to_list (opens entry)) ++ still_open opens ends after

-- the windows that an entry opened and none after it closed, in order of opening
abbrev pub open_windows : List Entry → List Opening
open_windows h = still_open (says opened) (λ o e. closes o.window e) h
