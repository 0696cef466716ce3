-- What a reader of JSON finds in the text of an uplink (RFC 8259, as the kit's `json` defines it): a number has its text.
use Rattle.std.specs.Prelude.{ℕ, ◌<◌, ◌^◌, ◌==◌, unsigned_abs, ⊤, List, [], ◌∷◌, codes, decimal, Option, Some, None, if◌then◌else◌}
use Rattle.std.specs.List.{AllByRecursion}
use Rattle.hex.specs.Hex.{encode_lower}
use Rattle.json.specs.Json.{Json, boolean, number, string, array, object, Items, no_items, item, Members, no_members, member}
use Rattle.ns_types.specs.declared.heard.Heard.{Heard}
use Rattle.ns_calls.specs.declared.answer.Uplink.{Uplink}
use Rattle.ns_lines.specs.Text.{wide, address_text}
use Rattle.ns_output.specs.declared.times.Times.{Times}
use Rattle.ns_events.specs.declared.lora.Lora.{Lora}
use Rattle.ns_events.specs.Lora.{lora_of}
use Rattle.ns_events.specs.Base64.{base64_text}
use Rattle.ns_events.specs.Times.{utc_text}
use Rattle.ns_events.specs.Uplink.{adr_bit, adr_ack_req_bit, ack_bit, class_b_bit, is_sealed, tenths_text}

-- the members of some times before others
abbrev pub with_times : Option Times → Members → Members
with_times None rest = rest
with_times (Some t) rest = member (codes "time") (string (utc_text t.heard)) (member (codes "writtenAt") (string (utc_text t.written)) rest)

-- the member of a port before others
abbrev pub with_port : Option ℕ → Members → Members
with_port None rest = rest
with_port (Some port) rest = member (codes "fPort") (number (decimal port)) rest

-- those of a data rate
abbrev pub with_rate_as : Option Lora → ℕ → Members → Members
with_rate_as (Some lora) dr rest = member (codes "spreadingFactor") (number (decimal lora.factor)) (member (codes "bandwidth") (number (decimal lora.bandwidth)) rest)
with_rate_as None dr rest = if dr == 7 then member (codes "bitRate") (number (codes "50000")) rest else rest

abbrev pub with_rate : ℕ → Members → Members
with_rate dr rest = with_rate_as (lora_of dr) dr rest

-- those of a copy: where and how it was heard, and how strong
abbrev pub heard_members : Heard → Members → Members
heard_members h rest =
    member (codes "gatewayId") (string (wide h.gateway.0))
    (member (codes "moment") (number (decimal h.moment))
    (member (codes "frequency") (number (decimal h.freq))
    (member (codes "dr") (number (decimal h.dr)) rest)))

abbrev pub signal_members : Heard → Members
signal_members h = member (codes "rssi") (number (tenths_text h.rssi)) (member (codes "snr") (number (tenths_text h.snr)) no_members)

abbrev pub copy_members : Heard → Members
copy_members h = heard_members h (with_rate h.dr (signal_members h))

abbrev pub copy_values : List Heard → Items
copy_values [] = no_items
copy_values (h ∷ hs) = item (object (copy_members h)) (copy_values hs)

-- the members behind the port
abbrev pub bit_members : Uplink → Members → Members
bit_members u rest =
    member (codes "confirmed") (boolean u.confirmed)
    (member (codes "adr") (boolean (adr_bit u.fctrl))
    (member (codes "adrAckReq") (boolean (adr_ack_req_bit u.fctrl))
    (member (codes "ack") (boolean (ack_bit u.fctrl))
    (member (codes "classB") (boolean (class_b_bit u.fctrl)) rest))))

abbrev pub option_members : Uplink → Members → Members
option_members u rest = member (codes "fOpts") (string (encode_lower u.fopts)) (member (codes "sealed") (boolean (is_sealed u)) rest)

abbrev pub payload_members : Uplink → Members → Members
payload_members u rest = member (codes "payload") (string (encode_lower u.payload)) (member (codes "data") (string (base64_text u.payload)) rest)

abbrev pub rx_members : Uplink → Members
rx_members u = member (codes "rxInfo") (array (copy_values u.copies.items)) no_members

abbrev pub control_members : Uplink → Members
control_members u = bit_members u (option_members u (payload_members u (rx_members u)))

-- those that say which frame it is before others
abbrev pub frame_members : Uplink → Members → Members
frame_members u rest =
    member (codes "devEui") (string (wide u.window.eui.0))
    (member (codes "devAddr") (string (address_text u.addr.0))
    (member (codes "session") (number (decimal u.window.session))
    (member (codes "fCnt") (number (decimal u.window.fcnt)) rest)))

abbrev pub uplink_members : Uplink → Members
uplink_members u = frame_members u (with_port u.port (control_members u))

-- the value of an uplink
abbrev pub uplink_value : Option Times → Uplink → Json
uplink_value times u = object (with_times times (uplink_members u))

-- ---- the numbers of an uplink fit their types, as those of each value of the code do

abbrev pub IsByte : ℕ → Type 0
IsByte b = b < 256

abbrev pub HeardFits : Heard → Type 0
HeardFits h = (h.moment < 2 ^ 64) × (h.freq < 2 ^ 32) × (h.dr < 256) × (unsigned_abs h.rssi < 2 ^ 16) × (unsigned_abs h.snr < 2 ^ 16)

abbrev pub PortFits : Option ℕ → Type 0
PortFits None = ⊤
PortFits (Some port) = port < 256

pub record UplinkFits (u : Uplink) : Type 0 where
  pub session : u.window.session < 2 ^ 32
  pub fcnt : u.window.fcnt < 2 ^ 32
  pub port : PortFits u.port
  pub fopts : AllByRecursion IsByte u.fopts
  pub payload : AllByRecursion IsByte u.payload
  pub copies : AllByRecursion HeardFits u.copies.items
