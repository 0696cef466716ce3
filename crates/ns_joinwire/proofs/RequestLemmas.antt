-- The text of a message is read back.
use Rattle.std.proofs.Common.{◌≡◌, ℕ, List, Some, refl}
use Rattle.std.specs.Str.{IsUtf8}
use Rattle.std.proofs.lemmas.Str.{is_utf8-from_IsUtf8}
use Rattle.hex.specs.Hex.{encode_lower}
use Rattle.serde_json.specs.Data.{Data}
use Rattle.serde_json.specs.Read.{read}
use Rattle.ns_types.specs.declared.ticket.Ticket.{Ticket}
use Rattle.ns_roster.specs.declared.Device.{Device}
use Rattle.ns_roster.specs.Field.{value_of, hex_bytes}
use Rattle.ns_roster.specs.Network.{Network}
use Rattle.ns_joinwire.specs.JoinReq.{fields_of, message, AsksAbout}

value_of-read : (text : List ℕ) (d : Data) → IsUtf8 text → read text ≡ Some d → value_of text ≡ Some d
value_of-read text d utf8 found = rw (is_utf8-from_IsUtf8 text utf8) found

-- a text that reads as the message about a Join-Request asks about it
pub AsksAbout-message : (net : Network) (device : Device) (ticket : Ticket) (text : List ℕ) → IsUtf8 text → read text ≡ Some (message (fields_of net device ticket))
    → hex_bytes 23 (encode_lower ticket.0) ≡ Some ticket.0 → AsksAbout ticket text
AsksAbout-message net device ticket text utf8 found frame = record {
  body = message (fields_of net device ticket);
  value = value_of-read text _ utf8 found;
  message_type = refl;
  transaction_id = refl;
  frame = frame;
}
