-- Laws of legal histories beside those of Laws, and words that no reply rests on.
use Rattle.std.specs.Prelude.{◌≡◌, ◌==◌, ℕ, ◌+◌, ◌<◌, ◌≤◌, Bool, true, false, List, [], ◌∷◌, ◌++◌, length, count_by, option_to_list, Option, None, Some, IsSome, is_some, option_map}
use Rattle.std.specs.List.{AllByRecursion, list_any}
use Rattle.ns_types.specs.declared.identity.DevEui.{DevEui}
use Rattle.ns_types.specs.declared.identity.WindowName.{WindowName}
use Rattle.ns_types.specs.declared.ticket.Ticket.{Ticket}
use Rattle.ns_types.specs.Identity.{same_uplink}
use Rattle.ns_types.specs.Ticket.{dev_eui, join_eui, nonce}
use Rattle.ns_views.specs.Frame.{data_fields, is_confirmed}
use Rattle.ns_secure.specs.Counter.{Exceeds}
use Rattle.ns_roster.specs.Network.{Network, is_known}
use Rattle.ns_calls.specs.declared.call.Call.{Call}
use Rattle.ns_calls.specs.declared.call.Reply.{Reply}
use Rattle.ns_calls.specs.declared.call.Reply.TheVariants.{Accepted, Closed}
use Rattle.ns_calls.specs.declared.call.Entry.{Entry}
use Rattle.ns_calls.specs.Entries.{acceptances, says, open_windows, most_copies}
use Rattle.ns_calls.specs.Laws.{Rises, nonces_of, hands_out_uplink}
use Rattle.ns_calls.specs.History.{asked, ends_ticket, next_session, greatest_nonce, session_acks, open_window, open_tickets, session_join, live, is_live, greatest_counter, last_round, is_uplink_open, window_count, ticket_count, window_copies, ticket_copies, last_nonce, first_window}
use Rattle.ns_calls.specs.Reply.{at_or_above, devices_at, window_with, reply_to, most_windows, most_tickets}
use Rattle.ns_calls.specs.Out.{uplink_out, answer, plain_payload}
use Rattle.ns_calls.specs.declared.answer.Uplink.{Uplink}
use Rattle.std.specs.Option.{option_map_or}
use Rattle.ns_types.specs.declared.identity.Key.{Key}
use Rattle.ns_types.specs.declared.heard.Heard.{Heard}
use Rattle.ns_views.specs.Parts.{with_payload}
use Rattle.ns_secure.specs.Integrity.{mic_fits}
use Rattle.ns_calls.specs.Queries.{first}

-- the last round of a session's greatest counter
abbrev pub session_round : List Entry → DevEui → ℕ → ℕ
session_round h eui session = option_map_or (λ n. last_round h (first_window eui session n)) (greatest_counter h eui session) 0

-- the name of the open window that was opened first
abbrev pub oldest : List Entry → Option WindowName
oldest h = option_map (λ o. o.window) (first (open_windows h))

-- the greatest nonce of the device, where the ticket's is at most that
abbrev pub nonce_at_or_above : Network → List Entry → Ticket → Option ℕ
nonce_at_or_above net h t = at_or_above (greatest_nonce net h (dev_eui t)) (nonce t).0

-- whether the frame's MIC is that of the window's session at the window's counter (LoRaWAN L2 1.0.4, 4.4)
abbrev pub fits : List Entry → List ℕ → WindowName → Bool
fits h frame w = option_map_or (λ join. mic_fits frame join.nwk.0 w.fcnt) (session_join h w.eui w.session) false

-- the frame with its payload deciphered
abbrev pub deciphered : Key → ℕ → List ℕ → List ℕ
deciphered key fcnt frame = with_payload frame (plain_payload key fcnt frame)

-- the same, or the frame as received where the key is not known
abbrev pub frame_under : Option Key → ℕ → List ℕ → List ℕ
frame_under key fcnt frame = option_map_or (λ k. deciphered k fcnt frame) key frame

-- the uplink of a window by its frame as it stands, with its copies
abbrev pub uplink_read : WindowName → Bool → List ℕ → Bool → List Heard → Uplink
uplink_read window confirmed frame sealed copies =
    let fields = data_fields frame in
    record {
      window = window;
      addr = record { 0 = fields.addr };
      confirmed = confirmed;
      fctrl = fields.fctrl;
      port = fields.port;
      fopts = fields.fopts;
      sealed = sealed;
      payload = fields.payload;
      copies = record { items = copies };
    }

-- the same as legality, entry by entry: before are the entries before these
abbrev pub IsLegalAfter : Network → List Entry → List Entry → Type 0
IsLegalAfter net before [] = Unit {0}
IsLegalAfter net before (e ∷ es) = (e.reply ≡ reply_to net before e.call) × IsLegalAfter net (before ++ e ∷ []) es

-- there is a greatest number, and n is at most that
abbrev pub Reaches : Option ℕ → ℕ → Type 0
Reaches None n = ⊥
Reaches (Some greatest) n = n ≤ greatest

-- each nonce that is accepted of a device is above the last one that the roster names, and at most the greatest one
pub record NoncesAreWithin (net : Network) (h : List Entry) : Type 0 where
  pub above : (eui : DevEui) → AllByRecursion (λ n. Exceeds (last_nonce net eui) n) (nonces_of h eui)
  pub up_to : (eui : DevEui) → AllByRecursion (λ n. Reaches (greatest_nonce net h eui) n) (nonces_of h eui)

-- each of some numbers is below each of the others
abbrev pub AreBelow : List ℕ → List ℕ → Type 0
AreBelow ms ns = AllByRecursion (λ m. AllByRecursion (λ n. m < n) ns) ms

-- the acknowledgement numbers of a session strictly rise, so none is used twice
abbrev pub AcksRise : List Entry → Type 0
AcksRise h = (eui : DevEui) (session : ℕ) → Rises (session_acks h eui session)

-- how many nonces there are up to the greatest one
abbrev pub nonces_up_to : Option ℕ → ℕ
nonces_up_to None = 0
nonces_up_to (Some greatest) = greatest + 1

-- there are no more sessions than nonces, so the number of a session is at most its nonce and 1
pub record SessionsAreBounded (net : Network) (h : List Entry) : Type 0 where
  pub next : (eui : DevEui) → next_session h eui ≤ nonces_up_to (greatest_nonce net h eui) + 1
  pub each : (eui : DevEui) → AllByRecursion (λ a. a.session ≤ (nonce a.ticket).0 + 1) (acceptances h eui)

-- What holds of a window that is opened by a frame: its device has the frame's address, the MIC fits under its session's key at its
-- counter, its session lives and its counter is new there, no window of its name is open or has copies yet, and no open window has
-- this frame.
pub record IsNewWindow (net : Network) (h : List Entry) (frame : List ℕ) (w : WindowName) : Type 0 where
  pub device : list_any (λ d. d.eui.0 == w.eui.0) (devices_at net (data_fields frame).addr) ≡ true
  pub mic : fits h frame w ≡ true
  pub session : is_live h w.eui w.session ≡ true
  pub counter : Exceeds (greatest_counter h w.eui w.session) w.fcnt
  pub round : w.round ≡ 1
  pub name : open_window h w ≡ None
  pub copies : window_copies h w ≡ []
  pub frame_apart : window_with h frame ≡ None

-- What holds of a window that is opened again by a frame: the frame is a Confirmed Data Up of its device, at the greatest counter of a
-- session that lives; no window of that uplink is open; the round is one more than its last one, which there is; and no open window
-- has this frame.
pub record IsNextRound (net : Network) (h : List Entry) (frame : List ℕ) (w : WindowName) : Type 0 where
  pub device : list_any (λ d. d.eui.0 == w.eui.0) (devices_at net (data_fields frame).addr) ≡ true
  pub confirmed : is_confirmed frame ≡ true
  pub mic : fits h frame w ≡ true
  pub session : is_live h w.eui w.session ≡ true
  pub counter : greatest_counter h w.eui w.session ≡ Some w.fcnt
  pub closed : is_uplink_open h w ≡ false
  pub round : w.round ≡ last_round h w + 1
  pub repeated : 1 < w.round
  pub copies : window_copies h w ≡ []
  pub frame_apart : window_with h frame ≡ None

-- An uplink with a new counter has no round yet, one with the greatest counter has a first one, and a window that is open is of the last
-- round of its uplink.
pub record RoundsAreCounted (h : List Entry) : Type 0 where
  pub new : (w : WindowName) → Exceeds (greatest_counter h w.eui w.session) w.fcnt → last_round h w ≡ 0
  pub greatest : (w : WindowName) → greatest_counter h w.eui w.session ≡ Some w.fcnt → 1 ≤ last_round h w
  pub of_open : AllByRecursion (λ o. o.window.round ≡ last_round h o.window) (open_windows h)

-- the uplinks that go out with these entries, in order, where before are the entries before them
abbrev pub uplinks_after : List Entry → List Entry → List Uplink
uplinks_after before [] = []
uplinks_after before (e ∷ es) = option_to_list (uplink_out before e.call e.reply) ++ uplinks_after (before ++ e ∷ []) es

-- Of one uplink of a device, that is of one counter of a session, at most one goes out, whatever is heard again and however often.
abbrev pub UplinksGoOutOnce : List Entry → Type 0
UplinksGoOutOnce h = (w : WindowName) → count_by (λ u. same_uplink u.window w) (uplinks_after [] h) ≤ 1

-- each live session has the join server's answer that made it, and so has the session of each open window
pub record SessionsHaveJoins (h : List Entry) : Type 0 where
  pub of_live : (eui : DevEui) → AllByRecursion (λ session. IsSome (session_join h eui session)) (live h eui)
  pub of_windows : AllByRecursion (λ o. IsSome (session_join h o.window.eui o.window.session)) (open_windows h)

-- a device has at most 8 open windows and 4 open tickets, and each has at most 16 copies
pub record LimitsHold (h : List Entry) : Type 0 where
  pub windows : (eui : DevEui) → window_count h eui ≤ most_windows
  pub tickets : (eui : DevEui) → ticket_count h eui ≤ most_tickets
  pub of_window : (w : WindowName) → length (window_copies h w) ≤ most_copies
  pub of_ticket : (t : Ticket) → length (ticket_copies h t) ≤ most_copies

-- each open ticket is of a device that the network knows with its JoinEUI
abbrev pub TicketsAreKnown : Network → List Entry → Type 0
TicketsAreKnown net h = AllByRecursion (λ t. is_known net (dev_eui t) (join_eui t) ≡ true) (open_tickets h)

-- each open window has a copy
abbrev pub WindowsHaveCopies : List Entry → Type 0
WindowsHaveCopies h = AllByRecursion (λ o. 0 < length (window_copies h o.window)) (open_windows h)

-- with which replies a downlink goes out
abbrev pub hands_out_downlink : Reply → Bool
hands_out_downlink (Accepted eui session addr) = true
hands_out_downlink (Closed window ack) = is_some ack
hands_out_downlink _ = false

-- the answer to a call has an uplink and a downlink exactly where its reply says so
pub record GoesOut (net : Network) (h : List Entry) (call : Call) : Type 0 where
  pub uplink : is_some (answer net h call).uplink ≡ hands_out_uplink (answer net h call).reply
  pub downlink : is_some (answer net h call).downlink ≡ hands_out_downlink (answer net h call).reply

-- an entry asked for the ticket, and none after it ended it
pub record IsOpenTicket (h : List Entry) (t : Ticket) : Type 0 where
  pub before : List Entry
  pub entry : Entry
  pub after : List Entry
  pub is : h ≡ before ++ entry ∷ after
  pub asks : says asked entry ≡ Some t
  pub not_ended : AllByRecursion (λ e. ends_ticket t e ≡ false) after
