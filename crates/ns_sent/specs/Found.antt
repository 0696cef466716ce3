-- What a search of a history finds in single entries, in the words of the history.
use Rattle.std.specs.Prelude.{ℕ, ◌≤◌, ◌&&◌, ◌==◌, length, List, Option, option_map, option_and_then}
use Rattle.ns_types.specs.declared.identity.DevEui.{DevEui}
use Rattle.ns_types.specs.declared.identity.WindowName.{WindowName}
use Rattle.ns_types.specs.declared.heard.Heard.{Heard}
use Rattle.ns_types.specs.declared.ticket.Ticket.{Ticket}
use Rattle.ns_types.specs.Cases.{when}
use Rattle.ns_types.specs.Heard.{best}
use Rattle.ns_types.specs.Identity.{same_window}
use Rattle.ns_calls.specs.declared.call.JoinAns.{JoinAns}
use Rattle.ns_calls.specs.declared.call.Outcome.TheVariants.{Success}
use Rattle.ns_calls.specs.declared.call.Call.{Call}
use Rattle.ns_calls.specs.declared.call.Call.TheVariants as call
use Rattle.ns_calls.specs.declared.call.Reply.{Reply}
use Rattle.ns_calls.specs.declared.call.Reply.TheVariants.{Accepted}
use Rattle.ns_calls.specs.declared.call.Entry.{Entry}
use Rattle.ns_calls.specs.declared.answer.Downlink.{Downlink}
use Rattle.ns_calls.specs.Entries.{Opening, says, accepted, same_device, most_copies}
use Rattle.ns_calls.specs.History.{same_ticket, copied, join_copied, window_copies, ticket_copies}
use Rattle.ns_calls.specs.Out.{accept_at}
use Rattle.ns_sent.specs.declared.search.Opened.{Opened}

-- the opening of a window that was found
abbrev pub opening : Opened → Opening
opening o = record { window = o.window; frame = o.frame; heard = o.heard }

-- the join server's answer with which an entry begins this session of the device
abbrev pub session_answer : DevEui → ℕ → Entry → Option JoinAns
session_answer eui session e = option_and_then (λ a. when (same_device a.eui eui && (a.session == session)) a.join_ans) (says accepted e)

-- the copy that an entry adds to this window, or to this ticket
abbrev pub window_copy : WindowName → Entry → Option Heard
window_copy w e = option_and_then (λ c. when (same_window c.0 w) c.1) (says copied e)

abbrev pub ticket_copy : Ticket → Entry → Option Heard
ticket_copy t e = option_and_then (λ c. when (same_ticket t c.0) c.1) (says join_copied e)

-- where a join is accepted, its ticket has at most 16 copies
abbrev pub AcceptFits : List Entry → Call → Reply → Type 0
AcceptFits h (call.JoinReply ticket (Success join)) (Accepted eui session addr) = length (ticket_copies h ticket) ≤ most_copies
AcceptFits h _ _ = Unit {0}

-- no window has more than 16 copies in these entries, nor has the ticket of a join that an entry after them accepts
pub record CopiesFit (h : List Entry) (e : Entry) : Type 0 where
  pub windows : (w : WindowName) → length (window_copies h w) ≤ most_copies
  pub ticket : AcceptFits h e.call e.reply

-- the Join-Accept that goes out for a ticket
abbrev pub accept_downlink : List Entry → Ticket → JoinAns → Option Downlink
accept_downlink h t join = option_map (accept_at join) (best (ticket_copies h t))
