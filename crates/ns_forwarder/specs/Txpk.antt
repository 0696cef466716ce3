-- The message that asks a forwarder to send a frame: PULL_RESP with a `txpk` (Semtech UDP protocol; EU868, RP002).
use Rattle.std.specs.Prelude.{◌≡◌, ℕ, ◌%◌, ◌^◌, ◌==◌, ◌&&◌, Bool, nat_le, pos, List, ◌∷◌, ◌++◌, length, codes, false, true, Some, Ok, if◌then◌else◌}
use Rattle.std.specs.Float.{Float, binary64}
use Rattle.std.specs.Float.Ieee.{of_int, div}
use Rattle.base64.specs.Engines.{standard_pad_indifferent}
use Rattle.base64.specs.GeneralPurpose.{encode_of}
use Rattle.serde_json.specs.Data.{Data, boolean, number, unsigned, float, string, object, member, no_members}
use Rattle.ns_types.specs.declared.heard.Target.{Target}
use Rattle.ns_link.specs.Datagram.{lowest_frequency, highest_frequency}
use Rattle.ns_roster.specs.Field.{value_of, whole_at}
use Rattle.ns_forwarder.specs.declared.item.TheConstants.{MILLION}
use Rattle.ns_forwarder.specs.Rxpk.{hertz_of, rate_of, counter_of, frame_of}

-- whether the frequency and the data rate are of EU868
abbrev pub is_of_band : Target → Bool
is_of_band t = nat_le lowest_frequency t.freq && nat_le t.freq highest_frequency && nat_le t.dr 7

-- the name of a data rate of LoRa, DR0 to DR6
abbrev pub rate_name : ℕ → List ℕ
rate_name dr =
    if dr == 0 then codes "SF12BW125"
    else if dr == 1 then codes "SF11BW125"
    else if dr == 2 then codes "SF10BW125"
    else if dr == 3 then codes "SF9BW125"
    else if dr == 4 then codes "SF8BW125"
    else if dr == 5 then codes "SF7BW125"
    else codes "SF7BW250"

-- a frequency in MHz, as the nearest binary64
abbrev pub megahertz : ℕ → Float
megahertz freq = div binary64 (of_int binary64 (pos freq)) MILLION

-- the bytes of a frame in base64 (RFC 4648), with padding
abbrev pub base64 : List ℕ → List ℕ
base64 frame = encode_of standard_pad_indifferent frame

-- the `txpk` of LoRa: coding rate 4/5, polarity inverted and no CRC, as of a gateway's frames
abbrev pub lora : Target → ℕ → List ℕ → Data
lora t power frame =
    object (member (codes "codr") (string (codes "4/5"))
    (member (codes "data") (string (base64 frame))
    (member (codes "datr") (string (rate_name t.dr))
    (member (codes "freq") (number (float (megahertz t.freq)))
    (member (codes "imme") (boolean false)
    (member (codes "ipol") (boolean true)
    (member (codes "modu") (string (codes "LORA"))
    (member (codes "ncrc") (boolean true)
    (member (codes "powe") (number (unsigned power))
    (member (codes "rfch") (number (unsigned 0))
    (member (codes "size") (number (unsigned (length frame)))
    (member (codes "tmst") (number (unsigned (t.moment % 2 ^ 32))) no_members))))))))))))

-- the `txpk` of FSK: 50,000 bits in a second, with a deviation of 25,000 Hz
abbrev pub fsk : Target → ℕ → List ℕ → Data
fsk t power frame =
    object (member (codes "data") (string (base64 frame))
    (member (codes "datr") (number (unsigned 50000))
    (member (codes "fdev") (number (unsigned 25000))
    (member (codes "freq") (number (float (megahertz t.freq)))
    (member (codes "imme") (boolean false)
    (member (codes "modu") (string (codes "FSK"))
    (member (codes "powe") (number (unsigned power))
    (member (codes "rfch") (number (unsigned 0))
    (member (codes "size") (number (unsigned (length frame)))
    (member (codes "tmst") (number (unsigned (t.moment % 2 ^ 32))) no_members))))))))))

-- the `txpk` of a frame, with the power in dBm: DR7 is FSK
abbrev pub txpk : Target → ℕ → List ℕ → Data
txpk t power frame = if t.dr == 7 then fsk t power frame else lora t power frame

abbrev pub request : Target → ℕ → List ℕ → Data
request t power frame = object (member (codes "txpk") (txpk t power frame) no_members)

-- the bytes are a PULL_RESP (identifier 3) of this version and token, whose body is read as this value
pub record IsPullResp (bytes : List ℕ) (version : ℕ) (token : List ℕ) (value : Data) : Type 0 where
  pub body : List ℕ
  pub parts : bytes ≡ version ∷ token ++ (3 ∷ body)
  pub is_read : value_of body ≡ Some value

-- What a forwarder reads in a `txpk`, as an `rxpk` is read: the low 32 bits of the moment, the frequency, the data rate and the frame.
pub record SaysToSend (d : Data) (t : Target) (frame : List ℕ) : Type 0 where
  pub counter : counter_of d ≡ Some (t.moment % 2 ^ 32)
  pub freq : hertz_of d ≡ Some t.freq
  pub dr : rate_of d ≡ Ok t.dr
  pub size : whole_at (codes "size") d ≡ Some (length frame)
  pub payload : frame_of d ≡ Ok frame
