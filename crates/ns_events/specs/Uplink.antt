-- The JSON object of an uplink, as a text on one line without spaces.
use Rattle.std.specs.Prelude.{ℕ, ◌/◌, ◌%◌, ℤ, pos, int_lt, unsigned_abs, Bool, ◌&&◌, ◌==◌, nat_lt, List, [], ◌∷◌, ◌++◌, length, flat_map, codes, decimal, Option, Some, None, if◌then◌else◌}
use Rattle.hex.specs.Hex.{encode_lower}
use Rattle.ns_types.specs.declared.heard.Heard.{Heard}
use Rattle.ns_calls.specs.declared.answer.Uplink.{Uplink}
use Rattle.ns_lines.specs.Text.{wide, address_text}
use Rattle.ns_output.specs.declared.times.Times.{Times}
use Rattle.ns_events.specs.declared.lora.Lora.{Lora}
use Rattle.ns_events.specs.Lora.{lora_of}
use Rattle.ns_events.specs.Base64.{base64_text}
use Rattle.ns_events.specs.Times.{utc_text}

-- a truth
abbrev pub flag_text : Bool → List ℕ
flag_text flag = if flag then codes "true" else codes "false"

-- a number of tenths: its sign where it is below zero, the whole, a point and one digit
unfoldable pub tenths_text : ℤ → List ℕ
tenths_text n = (if int_lt n (pos 0) then codes "-" else []) ++ decimal (unsigned_abs n / 10) ++ codes "." ++ decimal (unsigned_abs n % 10)

-- when the first copy came and when the line was written, where there is a clock
unfoldable pub times_text : Option Times → List ℕ
times_text None = []
times_text (Some t) = codes "\"time\":\"" ++ utc_text t.heard ++ codes "\",\"writtenAt\":\"" ++ utc_text t.written ++ codes "\","

-- which frame it is
unfoldable pub frame_text : Uplink → List ℕ
frame_text u =
    codes "\"devEui\":\"" ++ wide u.window.eui.0 ++ codes "\",\"devAddr\":\"" ++ address_text u.addr.0
    ++ codes "\",\"session\":" ++ decimal u.window.session ++ codes ",\"fCnt\":" ++ decimal u.window.fcnt

-- its port, where it has one
abbrev pub port_text : Option ℕ → List ℕ
port_text None = []
port_text (Some port) = codes ",\"fPort\":" ++ decimal port

-- bit k of FCtrl (LoRaWAN L2 1.0.4, 4.3.1)
abbrev pub adr_bit : ℕ → Bool
adr_bit fctrl = fctrl / 128 % 2 == 1

abbrev pub adr_ack_req_bit : ℕ → Bool
adr_ack_req_bit fctrl = fctrl / 64 % 2 == 1

abbrev pub ack_bit : ℕ → Bool
ack_bit fctrl = fctrl / 32 % 2 == 1

abbrev pub class_b_bit : ℕ → Bool
class_b_bit fctrl = fctrl / 16 % 2 == 1

-- its type and the bits of its FCtrl
unfoldable pub control_text : Bool → ℕ → List ℕ
control_text confirmed fctrl =
    codes ",\"confirmed\":" ++ flag_text confirmed ++ codes ",\"adr\":" ++ flag_text (adr_bit fctrl) ++ codes ",\"adrAckReq\":" ++ flag_text (adr_ack_req_bit fctrl)
    ++ codes ",\"ack\":" ++ flag_text (ack_bit fctrl) ++ codes ",\"classB\":" ++ flag_text (class_b_bit fctrl)

-- whether there is a payload and it is as received
abbrev pub is_sealed : Uplink → Bool
is_sealed u = u.sealed && nat_lt 0 (length u.payload)

-- its options, and whether its payload is sealed
unfoldable pub options_text : Uplink → List ℕ
options_text u = codes ",\"fOpts\":\"" ++ encode_lower u.fopts ++ codes "\",\"sealed\":" ++ flag_text (is_sealed u)

-- its payload in hex and in base64
unfoldable pub payload_text : List ℕ → List ℕ
payload_text payload = codes ",\"payload\":\"" ++ encode_lower payload ++ codes "\",\"data\":\"" ++ base64_text payload ++ codes "\""

-- the spreading factor and the bandwidth in Hz of a data rate that is LoRa, or at DR7 the bits a second of FSK
abbrev pub rate_text_as : Option Lora → ℕ → List ℕ
rate_text_as (Some lora) dr = codes ",\"spreadingFactor\":" ++ decimal lora.factor ++ codes ",\"bandwidth\":" ++ decimal lora.bandwidth
rate_text_as None dr = if dr == 7 then codes ",\"bitRate\":50000" else []

unfoldable pub rate_text : ℕ → List ℕ
rate_text dr = rate_text_as (lora_of dr) dr

-- where and how a copy was heard: gateway, moment of its clock in microseconds, frequency in Hz, data rate
unfoldable pub heard_text : Heard → List ℕ
heard_text h =
    codes "{\"gatewayId\":\"" ++ wide h.gateway.0 ++ codes "\",\"moment\":" ++ decimal h.moment ++ codes ",\"frequency\":" ++ decimal h.freq
    ++ codes ",\"dr\":" ++ decimal h.dr

-- how strong: RSSI in dBm, SNR in dB
unfoldable pub signal_text : Heard → List ℕ
signal_text h = codes ",\"rssi\":" ++ tenths_text h.rssi ++ codes ",\"snr\":" ++ tenths_text h.snr ++ codes "}"

-- a copy
unfoldable pub copy_text : Heard → List ℕ
copy_text h = heard_text h ++ rate_text h.dr ++ signal_text h

-- copies, parted by commas
unfoldable pub copies_text : List Heard → List ℕ
copies_text [] = []
copies_text (h ∷ hs) = copy_text h ++ flat_map (λ c. codes "," ++ copy_text c) hs

-- what is known of an uplink but for its copies
unfoldable pub front_text : Option Times → Uplink → List ℕ
front_text times u =
    codes "{" ++ times_text times ++ frame_text u ++ port_text u.port ++ control_text u.confirmed u.fctrl ++ options_text u ++ payload_text u.payload

-- the object of an uplink
unfoldable pub uplink_json : Option Times → Uplink → List ℕ
uplink_json times u = front_text times u ++ codes ",\"rxInfo\":[" ++ copies_text u.copies.items ++ codes "]}"
