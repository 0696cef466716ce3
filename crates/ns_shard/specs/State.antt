-- What a contract sees of a shard: what is read of it, what every state is, and how a call changes it.
use Rattle.ns_types.specs.Identity.{shard_of}
use Rattle.ns_types.specs.declared.identity.DevEui.{DevEui}
use Rattle.std.specs.Prelude.{◌≡◌, ◌⊎◌, ℕ, ◌+◌, Bool, false, List, [], ◌∷◌, ◌++◌, length, filter_map, Option, not, ◌==◌, None, is_some, option_and_then, if◌then◌else◌}
use Rattle.ns_types.specs.Cases.{when}
use Rattle.ns_types.specs.declared.identity.WindowName.{WindowName}
use Rattle.ns_types.specs.declared.ticket.Ticket.{Ticket}
use Rattle.ns_roster.specs.Network.{Network, device}
use Rattle.ns_calls.specs.declared.call.Call.{Call}
use Rattle.ns_calls.specs.declared.call.Call.TheVariants as call
use Rattle.ns_calls.specs.declared.call.Reply.{Reply}
use Rattle.ns_calls.specs.declared.call.Reply.TheVariants.{Ask}
use Rattle.ns_calls.specs.declared.call.Entry.{Entry}
use Rattle.ns_calls.specs.declared.answer.Answer.{Answer}
use Rattle.ns_calls.specs.History.{open_window, is_ticket_open, greatest_nonce}
use Rattle.ns_calls.specs.Headline.{oldest}
use Rattle.ns_calls.specs.Legal.{IsHistory, entry_for}
use Rattle.ns_calls.specs.Out.{answer}
use Rattle.ns_kept.specs.Kept.{Remains, reading, is_kept, filter_before, keep}
use Rattle.ns_kept.specs.Left.{Leaves}

-- The roster, the shard's number, how many entries were ever made, how many of them before the last trim, the names of the windows that
-- were open then, and the entries: those that the trim kept, and those made since.
pub record State : Type 0 where
  pub roster : Network
  pub index : ℕ
  pub made : ℕ
  pub mark : ℕ
  pub windows : List WindowName
  pub entries : List Entry

-- an answer with which nothing goes out
abbrev pub quiet : Reply → Answer
quiet r = record { reply = r; uplink = None; downlink = None }

-- ---- what is read of a state

-- what the last trim left, and the entries made since
abbrev pub remains : State → Remains
remains s = record { mark = s.mark; windows = s.windows; entries = s.entries }

-- the entries that answers rest on: how these read
abbrev pub seen : State → List Entry
seen s = reading (remains s)

-- the answer to a call
abbrev pub answer_in : State → Call → Answer
answer_in s call = answer s.roster (seen s) call

-- the name of the open window that was opened first
abbrev pub oldest_in : State → Option WindowName
oldest_in s = oldest (seen s)

-- whether a call closes an open window, or answers an open ticket
abbrev pub ends_open : List Entry → Call → Bool
ends_open h (call.Uplink frame heard) = false
ends_open h (call.Join ticket heard) = false
ends_open h (call.JoinReply ticket outcome) = is_ticket_open h ticket
ends_open h (call.Close window) = is_some (open_window h window)

-- whether it finds its window or its ticket open
abbrev pub finds_open : State → Call → Bool
finds_open s call = ends_open (seen s) call

-- the answer to a call that finds its window or its ticket open, and no answer to another one
abbrev pub answer_if_open : State → Call → Option Answer
answer_if_open s call = when (finds_open s call) (answer_in s call)

-- the greatest DevNonce of a device, where the roster has it
abbrev pub known_greatest : Network → List Entry → DevEui → Option ℕ
known_greatest net h eui = option_and_then (λ d. greatest_nonce net h eui) (device net eui)

-- the greatest DevNonce of one of the shard's devices
abbrev pub greatest_in : State → DevEui → Option ℕ
greatest_in s eui = if shard_of eui == s.index then known_greatest s.roster (seen s) eui else None

-- the ticket that an entry asks for, where it passes a test
abbrev pub asked_in : (Ticket → Bool) → Reply → Option Ticket
asked_in test (Ask ticket) = when (test ticket) ticket
asked_in test _ = None

-- the open tickets among those that the entries asked for, in order
abbrev pub open_tickets_in : State → List Ticket
open_tickets_in s = filter_map (λ e. asked_in (is_ticket_open (seen s)) e.reply) s.entries

-- ---- what every state is

-- the state has what it keeps of this history: what the history leaves after the last trim, and how many entries it has
pub record Keeps (history : List Entry) (s : State) : Type 0 where
  pub made : s.made ≡ length history
  pub left : Leaves s.roster history (remains s)

-- a history of the shard, of which the state has what it keeps
pub record IsState (s : State) : Type 0 where
  pub history : List Entry
  pub is_history : IsHistory s.roster s.index history
  pub keeps : Keeps history s

-- ---- how it changes

-- a shard without entries
abbrev pub no_entries : Network → ℕ → State
no_entries net index = record { roster = net; index = index; made = 0; mark = 0; windows = []; entries = [] }

-- the entry of a call
abbrev pub entry_in : State → Call → Entry
entry_in s call = entry_for s.roster (seen s) s.made call

-- the shard with one more entry: that of the call
abbrev pub after_call : State → Call → State
after_call s call = record s { made = s.made + 1; entries = s.entries ++ entry_in s call ∷ [] }

-- the shard with the entry of a call that finds its window or its ticket open, and as it was at another one
abbrev pub after_if_open : State → Call → State
after_if_open s call = if finds_open s call then after_call s call else s

-- the shard after a trim
abbrev pub after_trim : State → State
after_trim s = let kept = keep s.made (remains s) in record s { mark = kept.mark; windows = kept.windows; entries = kept.entries }

-- the entries that a trim drops, in order
abbrev pub dropped : State → List Entry
dropped s = filter_before (λ e after. not (is_kept (seen s) e after)) s.entries

-- the shard is as it was, or was trimmed
abbrev pub MayBeTrimmed : State → State → Type 0
MayBeTrimmed old new = (new ≡ old) ⊎ (new ≡ after_trim old)
