-- What a JoinReq asks (TS002, JoinReq); None where a field is missing or wrong.
use Rattle.std.specs.Prelude.{ℕ, ◌^◌, ◌&&◌, ◌==◌, Bool, List, ◌∷◌, nat_lt, nat_le, bytes_eq, codes, slice_index, Option, Some, None, option_map, option_and_then, if◌then◌else◌}
use Rattle.std.specs.Int.{w32, from_be_bytes}
use Rattle.serde_json.specs.Data.{Data}
use Rattle.ns_types.specs.Options.{◌>>=◌}
use Rattle.ns_types.specs.declared.identity.NetId.{NetId}
use Rattle.ns_types.specs.declared.identity.DevAddr.{DevAddr}
use Rattle.ns_types.specs.declared.ticket.Ticket.{Ticket}
use Rattle.ns_views.specs.Frame.{is_join_type, major_of}
use Rattle.ns_roster.specs.Field.{value_of, text_at, whole_at, hex_bytes}
use Rattle.ns_device.specs.declared.request.JoinReq.{JoinReq}

-- the value, where the test holds
abbrev pub only_if : {X : Type 0} → Bool → X → Option X
only_if test x = if test then Some x else None

-- the n bytes that the text at a key spells in hex
abbrev pub bytes_at : ℕ → List ℕ → Data → Option (List ℕ)
bytes_at n key d = option_and_then (hex_bytes n) (text_at key d)

-- whether 23 bytes are a Join-Request: its type, and Major 0 (LoRaWAN L2 1.0.4, 4.2)
abbrev pub is_join_request : List ℕ → Bool
is_join_request frame = is_join_type frame && (major_of frame == 0)

-- PHYPayload: the 23 bytes of a Join-Request
abbrev pub ticket_at : Data → Option Ticket
ticket_at d = bytes_at 23 (codes "PHYPayload") d >>= λ frame. only_if (is_join_request frame) (record { 0 = frame })

-- SenderID: the NetID of the network that asks
abbrev pub net_id_at : Data → Option NetId
net_id_at d = option_map (λ bytes. record { 0 = from_be_bytes w32 (0 ∷ bytes) }) (bytes_at 3 (codes "SenderID") d)

-- DevAddr: the address that the device is to have
abbrev pub addr_at : Data → Option DevAddr
addr_at d = option_map (λ bytes. record { 0 = from_be_bytes w32 bytes }) (bytes_at 4 (codes "DevAddr") d)

-- DLSettings, of one byte
abbrev pub settings_at : Data → Option ℕ
settings_at d = option_map (λ bytes. slice_index bytes 0) (bytes_at 1 (codes "DLSettings") d)

-- RxDelay: a whole number of four bits (LoRaWAN L2 1.0.4, 6.2.6)
abbrev pub delay_at : Data → Option ℕ
delay_at d = whole_at (codes "RxDelay") d >>= λ n. only_if (nat_le n 15) n

-- TransactionID: a whole number of 32 bits
abbrev pub transaction_at : Data → Option ℕ
transaction_at d = whole_at (codes "TransactionID") d >>= λ n. only_if (nat_lt n (2 ^ 32)) n

-- the fields behind the MessageType
abbrev pub fields_of : Data → Option JoinReq
fields_of d = do
  ticket ← ticket_at d
  net_id ← net_id_at d
  addr ← addr_at d
  dl_settings ← settings_at d
  rx_delay ← delay_at d
  transaction ← transaction_at d
  Some (record { ticket = ticket; net_id = net_id; addr = addr; dl_settings = dl_settings; rx_delay = rx_delay; transaction = transaction })

-- what a message asks
unfoldable pub request_of : Data → Option JoinReq
request_of d = do
  message_type ← text_at (codes "MessageType") d
  if bytes_eq message_type (codes "JoinReq") then fields_of d else None

-- what a text asks
abbrev pub request_in : List ℕ → Option JoinReq
request_in text = value_of text >>= request_of
