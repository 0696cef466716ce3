-- The step line of a call, as bytes without a line feed: `replay` reads it back to that call.
use Rattle.std.specs.Prelude.{◌≡◌, ◌≤◌, ◌<◌, ◌^◌, ℕ, List, [], ◌∷◌, ◌++◌, length, codes, decimal, Option, None, Some, Ok, map, flat_map}
use Rattle.std.specs.Int.{w32, w64, to_be_bytes}
use Rattle.hex.specs.Hex.{encode_lower}
use Rattle.ns_types.specs.Bytes.{AreBytes}
use Rattle.ns_types.specs.declared.identity.Key.{Key}
use Rattle.ns_types.specs.declared.identity.WindowName.{WindowName}
use Rattle.ns_types.specs.declared.heard.Heard.{Heard}
use Rattle.ns_types.specs.declared.ticket.Ticket.{Ticket}
use Rattle.ns_types.specs.Ticket.{transaction}
use Rattle.ns_link.specs.Datagram.{two_complement, up_datagram}
use Rattle.ns_calls.specs.declared.accept.JoinAccept.{JoinAccept}
use Rattle.ns_calls.specs.declared.call.JoinAns.{JoinAns}
use Rattle.ns_calls.specs.declared.call.Outcome.TheVariants as outcome
use Rattle.ns_calls.specs.declared.call.Call.{Call}
use Rattle.ns_calls.specs.declared.call.Call.TheVariants as call
use Rattle.ns_calls.specs.Accept.{accept_bytes}
use Rattle.ns_lines.specs.Text.{window_text}
use Rattle.ns_acts.specs.declared.step.Act.{Act}
use Rattle.ns_acts.specs.declared.step.Act.TheVariants.{Datagram, Answer, Lost, Close}
use Rattle.ns_acts.specs.Calls.{call_of}
use Rattle.ns_steps.specs.StepLines.{step, steps}

-- ---- the text of a JoinAns that says just this (TS002, JoinAns; this server's profile)

-- a key that none wraps (TS002, KeyEnvelope)
unfoldable pub key_text : Key → List ℕ
key_text key = codes "{\"AESKey\":\"" ++ encode_lower key.0 ++ codes "\"}"

-- the AppSKey, where it is known
unfoldable pub app_text : Option Key → List ℕ
app_text None = []
app_text (Some key) = codes "\"AppSKey\":" ++ key_text key ++ codes ","

-- the Join-Accept, that the join succeeded, and the transaction
unfoldable pub accept_text : ℕ → JoinAccept → List ℕ
accept_text transaction accept =
    codes ",\"PHYPayload\":\"" ++ encode_lower (accept_bytes accept)
    ++ codes "\",\"Result\":{\"ResultCode\":\"Success\"},\"TransactionID\":" ++ decimal transaction
    ++ codes "}"

unfoldable pub join_text : ℕ → JoinAns → List ℕ
join_text transaction join =
    codes "{" ++ app_text join.app
    ++ codes "\"MessageType\":\"JoinAns\",\"NwkSKey\":" ++ key_text join.nwk
    ++ accept_text transaction join.accept

-- ---- the step line

-- the bytes of a datagram before its frame of n bytes
abbrev pub up_header : Heard → ℕ → List ℕ
up_header h n =
    0x01 ∷ 0x01 ∷ to_be_bytes w64 h.gateway.0 ++ to_be_bytes w64 h.moment ++ to_be_bytes w32 h.freq
    ++ (h.dr ∷ two_complement h.rssi ++ two_complement h.snr ++ (n ∷ []))

-- `heard HEX`: the datagram of a frame that was heard so
unfoldable pub heard_text : Heard → List ℕ → List ℕ
heard_text heard frame = codes "heard " ++ encode_lower (up_datagram heard frame)

-- `lost TICKET`
unfoldable pub lost_text : Ticket → List ℕ
lost_text ticket = codes "lost " ++ encode_lower ticket.0

-- `answer TICKET TEXT`
unfoldable pub answer_text : Ticket → JoinAns → List ℕ
answer_text ticket join = codes "answer " ++ encode_lower ticket.0 ++ codes " " ++ join_text (transaction ticket) join

-- `close EUI SESSION FCNT` or `close EUI SESSION FCNT:ROUND`
unfoldable pub close_text : WindowName → List ℕ
close_text window = codes "close" ++ window_text window

abbrev pub step_text : Call → List ℕ
step_text (call.Uplink frame heard) = heard_text heard frame
step_text (call.Join ticket heard) = heard_text heard ticket.0
step_text (call.JoinReply ticket outcome.Failed) = lost_text ticket
step_text (call.JoinReply ticket (outcome.Success join)) = answer_text ticket join
step_text (call.Close window) = close_text window

-- the text of a record of calls: their step lines in order, each with its line feed
abbrev pub record_text : List Call → List ℕ
record_text calls = flat_map (λ c. step_text c ++ 10 ∷ []) calls

-- ---- the calls that a server makes

-- a ticket has 23 bytes
pub record IsTicket (ticket : Ticket) : Type 0 where
  pub sized : length ticket.0 ≡ 23
  pub bytes : AreBytes ticket.0

-- the numbers of a window fit their widths, and rounds are numbered from 1
pub record IsName (window : WindowName) : Type 0 where
  pub eui : window.eui.0 < 2 ^ 64
  pub session : window.session < 2 ^ 32
  pub fcnt : window.fcnt < 2 ^ 32
  pub first : 1 ≤ window.round
  pub round : window.round < 2 ^ 32

-- what a program's types say of a step, and that rounds begin at 1: a datagram has bytes, and a ticket and a window are whole
abbrev pub IsWhole : Act → Type 0
IsWhole (Datagram bytes) = AreBytes bytes
IsWhole (Answer ticket body) = IsTicket ticket
IsWhole (Lost ticket) = IsTicket ticket
IsWhole (Close window) = IsName window

-- some step makes the call: it came by a datagram, by the end of asking a join server, or by a closing
abbrev pub IsOfAStep : Call → Type 0
IsOfAStep c = (act : Act) × IsWhole act × (call_of act ≡ Ok c)

-- the line is read back to a step that makes the call
abbrev pub ReadsBack : List ℕ → Call → Type 0
ReadsBack line c = (act : Act) × (step line ≡ Some act) × (call_of act ≡ Ok c)

-- the steps of the text make just these calls, in order
abbrev pub AreReadBack : List ℕ → List Call → Type 0
AreReadBack text calls = (acts : List Act) × (steps text ≡ map Some acts) × (map call_of acts ≡ map Ok calls)
