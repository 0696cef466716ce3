-- The text that asks a join server (TS002, JoinReq; this server's profile).
use Rattle.std.specs.Prelude.{ℕ, ◌*◌, ◌≡◌, List, codes, Some, option_and_then}
use Rattle.hex.specs.Hex.{encode_lower}
use Rattle.serde_json.specs.Data.{Data, number, unsigned, string, object, member, no_members}
use Rattle.serde_json.specs.Written.{compact_text}
use Rattle.ns_types.specs.declared.ticket.Ticket.{Ticket}
use Rattle.ns_types.specs.Ticket.{transaction}
use Rattle.ns_roster.specs.declared.Device.{Device}
use Rattle.ns_roster.specs.Field.{value_of, text_at, whole_at, hex_bytes, hex_number}
use Rattle.ns_roster.specs.Network.{Network, device_addr}

-- DLSettings (LoRaWAN L2 1.0.4, 6.2.6): RX1DROffset in bits 6 to 4, and RX2DataRate 0
abbrev pub dl_settings : Network → ℕ
dl_settings net = 16 * net.rx1_offset

-- the fields that differ from one message to another; all but two are hex
pub record Fields : Type 0 where
  pub settings : List ℕ
  pub dev_addr : List ℕ
  pub dev_eui : List ℕ
  pub frame : List ℕ
  pub join_eui : List ℕ
  pub rx_delay : ℕ
  pub net_id : List ℕ
  pub transaction : ℕ

-- the fields of a device's Join-Request
abbrev pub fields_of : Network → Device → Ticket → Fields
fields_of net device ticket = record {
  settings = hex_number 1 (dl_settings net);
  dev_addr = hex_number 4 (device_addr net device).0;
  dev_eui = hex_number 8 device.eui.0;
  frame = encode_lower ticket.0;
  join_eui = hex_number 8 device.join_eui.0;
  rx_delay = net.rx_delay;
  net_id = hex_number 3 net.net_id.0;
  transaction = transaction ticket;
}

-- the message with some fields, in the order of their names
abbrev pub message : Fields → Data
message f =
    object (member (codes "DLSettings") (string f.settings)
    (member (codes "DevAddr") (string f.dev_addr)
    (member (codes "DevEUI") (string f.dev_eui)
    (member (codes "MACVersion") (string (codes "1.0.4"))
    (member (codes "MessageType") (string (codes "JoinReq"))
    (member (codes "PHYPayload") (string f.frame)
    (member (codes "ProtocolVersion") (string (codes "1.0"))
    (member (codes "ReceiverID") (string f.join_eui)
    (member (codes "RxDelay") (number (unsigned f.rx_delay))
    (member (codes "SenderID") (string f.net_id)
    (member (codes "TransactionID") (number (unsigned f.transaction)) no_members)))))))))))

-- the text that asks about a device's Join-Request, with no space
abbrev pub joinreq : Network → Device → Ticket → List ℕ
joinreq net device ticket = compact_text (message (fields_of net device ticket))

-- What a join server reads in a text: it asks about this Join-Request.
pub record AsksAbout (ticket : Ticket) (text : List ℕ) : Type 0 where
  pub body : Data
  pub value : value_of text ≡ Some body
  pub message_type : text_at (codes "MessageType") body ≡ Some (codes "JoinReq")
  pub transaction_id : whole_at (codes "TransactionID") body ≡ Some (transaction ticket)
  pub frame : option_and_then (hex_bytes 23) (text_at (codes "PHYPayload") body) ≡ Some ticket.0
