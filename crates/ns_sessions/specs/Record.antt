-- What the state of one device says, how each call changes it, and what a history says of the device.
-- (LoRaWAN L2 1.0.4, 4.3.1.5 for counters and 6.2 for joins)
use Rattle.std.specs.Prelude.{ℕ, ◌+◌, ◌^◌, true, ◌&&◌, ◌==◌, nat_lt, List, [], ◌∷◌, ◌++◌, length, map, filter, filter_map, find, Option, None, Some, option_map, option_and_then, is_some, if◌then◌else◌}
use Rattle.std.specs.Option.{option_map_or}
use Rattle.ns_types.specs.declared.identity.DevEui.{DevEui}
use Rattle.ns_types.specs.declared.heard.Heard.{Heard}
use Rattle.ns_types.specs.declared.ticket.Ticket.{Ticket}
use Rattle.ns_types.specs.Cases.{when}
use Rattle.ns_types.specs.Ticket.{dev_eui, nonce}
use Rattle.ns_secure.specs.Counter.{Exceeds}
use Rattle.ns_roster.specs.Network.{Network}
use Rattle.ns_calls.specs.declared.call.JoinAns.{JoinAns}
use Rattle.ns_calls.specs.declared.call.Outcome.{Outcome}
use Rattle.ns_calls.specs.declared.call.Outcome.TheVariants.{Success}
use Rattle.ns_calls.specs.declared.call.Entry.{Entry}
use Rattle.ns_calls.specs.Queries.{first}
use Rattle.ns_calls.specs.Entries.{same_device}
use Rattle.ns_calls.specs.History.{same_ticket, greatest_nonce, next_session, session_join, live, greatest_counter, next_ack, open_tickets, ticket_copies}
use Rattle.ns_calls.specs.Headline.{session_round}
use Rattle.ns_calls.specs.declared.call.Reply.{Reply}
use Rattle.ns_calls.specs.declared.call.Reply.TheVariants as told
use Rattle.ns_calls.specs.Reply.{at_or_above, is_failed, fitting_counter, is_greatest, JoinFacts, join_copy_reply, join_rule, AnswerFacts, answer_rule}
use Rattle.ns_sessions.specs.declared.session.Session.{Session}
use Rattle.ns_sessions.specs.declared.ticket.OpenTicket.{OpenTicket}
use Rattle.ns_sessions.specs.declared.decision.JoinDecision.{JoinDecision}
use Rattle.ns_sessions.specs.declared.decision.JoinDecision.TheVariants as join
use Rattle.ns_sessions.specs.declared.decision.AnswerDecision.{AnswerDecision}
use Rattle.ns_sessions.specs.declared.decision.AnswerDecision.TheVariants as reply
use Rattle.ns_sessions.specs.Copies.{copies_record, with_one_more}

-- The greatest nonce accepted, the number of the next session, the live sessions, and the open tickets in order.
pub record DeviceRecord : Type 0 where
  pub greatest_nonce : Option ℕ
  pub next_session : ℕ
  pub sessions : List Session
  pub tickets : List OpenTicket

-- a device that has not joined, with the last nonce that the roster names of it
abbrev pub no_joins : Option ℕ → DeviceRecord
no_joins last = record { greatest_nonce = last; next_session = 1; sessions = []; tickets = [] }

-- the live session of this number
abbrev pub session_in : DeviceRecord → ℕ → Option Session
session_in r number = find (λ s. s.number == number) r.sessions

-- ---- uplinks

-- the session's number and the counter that recover gives, where the frame's MIC fits there (4.4)
abbrev pub session_fit : (Option ℕ → ℕ → Option ℕ) → List ℕ → Session → Option (ℕ × ℕ)
session_fit recover frame s = option_map (λ counter. (s.number, counter)) (fitting_counter recover frame s.nwk s.greatest_counter)

-- those of the first live session that fits
abbrev pub device_fit : (Option ℕ → ℕ → Option ℕ) → List ℕ → DeviceRecord → Option (ℕ × ℕ)
device_fit recover frame r = first (filter_map (session_fit recover frame) r.sessions)

-- the session lives, and the counter is above its greatest one
abbrev pub IsNewCounter : Option Session → ℕ → Type 0
IsNewCounter None counter = ⊥
IsNewCounter (Some s) counter = Exceeds s.greatest_counter counter

-- an uplink is opened in a session: the sessions before it end
abbrev pub sessions_after_uplink : ℕ → ℕ → List Session → List Session
sessions_after_uplink number counter [] = []
sessions_after_uplink number counter (s ∷ sessions) = if s.number == number then (record s { greatest_counter = Some counter; round = 1 }) ∷ sessions else sessions_after_uplink number counter sessions

abbrev pub with_uplink : ℕ → ℕ → DeviceRecord → DeviceRecord
with_uplink number counter r = record r { sessions = sessions_after_uplink number counter r.sessions }

-- ---- rounds

-- the next round of a session's greatest counter, where there is one of 32 bits
abbrev pub session_next_round : ℕ → Session → Option ℕ
session_next_round counter s = when (is_greatest s.greatest_counter counter && nat_lt (s.round + 1) (2 ^ 32)) (s.round + 1)

abbrev pub next_round_in : DeviceRecord → ℕ → ℕ → Option ℕ
next_round_in r number counter = option_and_then (session_next_round counter) (session_in r number)

-- a change of the live session of this number
abbrev pub change_session : ℕ → (Session → Session) → List Session → List Session
change_session number change [] = []
change_session number change (s ∷ sessions) = if s.number == number then change s ∷ sessions else s ∷ change_session number change sessions

-- a window of this round is opened for the greatest counter of a session
abbrev pub session_in_round : ℕ → Session → Session
session_in_round round s = record s { round = round }

abbrev pub with_round : ℕ → ℕ → DeviceRecord → DeviceRecord
with_round number round r = record r { sessions = change_session number (session_in_round round) r.sessions }

-- ---- acknowledgements

-- the number of a session's next acknowledgement, where there is one of 32 bits
abbrev pub session_ack : Session → Option ℕ
session_ack s = when (nat_lt s.next_ack (2 ^ 32)) s.next_ack

abbrev pub ack_in : DeviceRecord → ℕ → Option ℕ
ack_in r number = option_and_then session_ack (session_in r number)

-- that number is used
abbrev pub session_after_ack : Session → Session
session_after_ack s = if nat_lt s.next_ack (2 ^ 32) then record s { next_ack = s.next_ack + 1 } else s

abbrev pub with_ack : ℕ → DeviceRecord → DeviceRecord
with_ack number r = record r { sessions = change_session number session_after_ack r.sessions }

-- ---- rounds that were not run

-- the session with this last round and this next acknowledgement number
abbrev pub session_with : ℕ → ℕ → Session → Session
session_with round next s = record s { round = round; next_ack = next }

abbrev pub with_rounds : ℕ → ℕ → ℕ → DeviceRecord → DeviceRecord
with_rounds number round next r = record r { sessions = change_session number (session_with round next) r.sessions }

-- ---- joins

-- the greatest nonce, where the ticket's is at most that
abbrev pub nonce_at_or_above : DeviceRecord → Ticket → Option ℕ
nonce_at_or_above r t = at_or_above r.greatest_nonce (nonce t).0

-- the open ticket of equal bytes
abbrev pub ticket_among : Ticket → List OpenTicket → Option OpenTicket
ticket_among t tickets = find (λ o. same_ticket t o.ticket) tickets

abbrev pub ticket_in : DeviceRecord → Ticket → Option OpenTicket
ticket_in r t = ticket_among t r.tickets

-- what a reply to a Join-Request of the device decides
abbrev pub decision_of : Reply → JoinDecision
decision_of (told.NonceOld greatest) = join.Old greatest
decision_of (told.JoinCopied place) = join.Copied place
decision_of told.JoinCrowded = join.Crowded
decision_of told.JoinBusy = join.Busy
decision_of _ = join.Ask

-- one more copy of an open ticket
abbrev pub copy_decision : OpenTicket → JoinDecision
copy_decision o = decision_of (join_copy_reply o.copies.count)

-- what comes of a Join-Request
abbrev pub join_facts : DeviceRecord → Ticket → JoinFacts
join_facts r t = record { known = true; greatest = r.greatest_nonce; copies = option_map (λ o. o.copies.count) (ticket_in r t); tickets = length r.tickets }

abbrev pub join_decision : DeviceRecord → Ticket → JoinDecision
join_decision r t = decision_of (join_rule t (join_facts r t))

abbrev pub one_copy : Ticket → Heard → OpenTicket
one_copy t heard = record { ticket = t; copies = copies_record (heard ∷ []) }

abbrev pub with_copy : JoinDecision → Heard → OpenTicket → OpenTicket
with_copy (join.Copied place) heard o = record o { copies = with_one_more heard o.copies }
with_copy _ heard o = o

-- one more copy of the ticket of equal bytes
abbrev pub tickets_after_copy : Ticket → Heard → List OpenTicket → List OpenTicket
tickets_after_copy t heard [] = []
tickets_after_copy t heard (o ∷ tickets) = if same_ticket t o.ticket then (record o { copies = with_one_more heard o.copies }) ∷ tickets else o ∷ tickets_after_copy t heard tickets

-- the open tickets after a Join-Request
abbrev pub tickets_after_join : JoinDecision → Ticket → Heard → List OpenTicket → List OpenTicket
tickets_after_join join.Ask t heard tickets = tickets ++ one_copy t heard ∷ []
tickets_after_join (join.Copied place) t heard tickets = tickets_after_copy t heard tickets
tickets_after_join _ t heard tickets = tickets

abbrev pub with_join : JoinDecision → Ticket → Heard → DeviceRecord → DeviceRecord
with_join decision t heard r = record r { tickets = tickets_after_join decision t heard r.tickets }

-- ---- answers of join servers

-- the best copy of an open ticket
abbrev pub best_in : DeviceRecord → Ticket → Option Heard
best_in r t = option_and_then (λ o. o.copies.best) (ticket_in r t)

-- what a reply to a join server's answer decides, with the best copy of its ticket. An open ticket has a copy
abbrev pub answer_decision_of : Reply → Option Heard → AnswerDecision
answer_decision_of told.JoinRefused best = reply.Refused
answer_decision_of (told.JoinStale greatest) best = reply.Stale greatest
answer_decision_of (told.Accepted eui session addr) best = option_map_or (λ heard. reply.Accepted session heard) best reply.NoTicket
answer_decision_of _ best = reply.NoTicket

-- what comes of the answer to a join: a record has no address, and a decision none
abbrev pub answer_facts : DeviceRecord → Ticket → Outcome → AnswerFacts
answer_facts r t outcome = record { is_open = is_some (ticket_in r t); failed = is_failed outcome; greatest = r.greatest_nonce; session = r.next_session; addr = record { 0 = 0 } }

abbrev pub answer_decision : DeviceRecord → Ticket → Outcome → AnswerDecision
answer_decision r t outcome = answer_decision_of (answer_rule t (answer_facts r t outcome)) (best_in r t)

abbrev pub without : Ticket → List OpenTicket → List OpenTicket
without t [] = []
without t (o ∷ tickets) = if same_ticket t o.ticket then tickets else o ∷ without t tickets

-- a session in which nothing was opened yet
abbrev pub new_session : ℕ → JoinAns → Session
new_session number join_ans = record { number = number; nwk = join_ans.nwk; app = join_ans.app; greatest_counter = None; round = 0; next_ack = 0 }

-- a join is accepted: the session in which nothing was opened ends
abbrev pub after_acceptance : ℕ → JoinAns → DeviceRecord → DeviceRecord
after_acceptance nonce join_ans r = record r {
  greatest_nonce = Some nonce;
  next_session = r.next_session + 1;
  sessions = filter (λ s. is_some s.greatest_counter) r.sessions ++ new_session r.next_session join_ans ∷ [];
}

abbrev pub with_session : AnswerDecision → Ticket → Outcome → DeviceRecord → DeviceRecord
with_session (reply.Accepted session best) t (Success join_ans) r = after_acceptance (nonce t).0 join_ans r
with_session _ t outcome r = r

abbrev pub with_reply : AnswerDecision → Ticket → Outcome → DeviceRecord → DeviceRecord
with_reply decision t outcome r = with_session decision t outcome (record r { tickets = without t r.tickets })

-- ---- what a history says of a device

abbrev pub session_record : List Entry → DevEui → ℕ → Option Session
session_record h eui number =
    option_map (λ join_ans. record { number = number; nwk = join_ans.nwk; app = join_ans.app; greatest_counter = greatest_counter h eui number; round = session_round h eui number; next_ack = next_ack h eui number })
    (session_join h eui number)

abbrev pub ticket_record : List Entry → Ticket → OpenTicket
ticket_record h t = record { ticket = t; copies = copies_record (ticket_copies h t) }

abbrev pub tickets_of : List Entry → DevEui → List Ticket
tickets_of h eui = filter (λ t. same_device (dev_eui t) eui) (open_tickets h)

unfoldable pub device_record : Network → List Entry → DevEui → DeviceRecord
device_record net h eui = record {
  greatest_nonce = greatest_nonce net h eui;
  next_session = next_session h eui;
  sessions = filter_map (session_record h eui) (live h eui);
  tickets = map (ticket_record h) (tickets_of h eui);
}
