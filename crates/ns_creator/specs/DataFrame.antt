-- Data frames as they are written (LoRaWAN L2 1.0.4, 4): the fields that a maker gives, and the bytes that go out. Reserved bits are 0.
use Rattle.std.specs.Prelude.{◌≡◌, ℕ, ◌+◌, ◌%◌, Bool, true, false, ◌==◌, nat_lt, List, [], ◌∷◌, ◌++◌, length, Option, None, Some, if◌then◌else◌, ◌/◌}
use Rattle.ns_types.specs.declared.identity.Key.{Key}
use Rattle.std.specs.Int.{w16, w32, to_le_bytes}
use Rattle.ns_views.specs.Grammar.{DataFields, mhdr, ported, frame_before_mic}
use Rattle.ns_secure.specs.declared.Dir.{Dir}
use Rattle.ns_secure.specs.declared.Dir.TheVariants.{Up, Down}
use Rattle.ns_secure.specs.Integrity.{mic}
use Rattle.ns_secure.specs.Cipher.{cipher}
use Rattle.ns_creator.specs.declared.keys.Keys.{Keys}
use Rattle.ns_creator.specs.declared.fault.CreateFault.{CreateFault}
use Rattle.ns_creator.specs.declared.fault.CreateFault.TheVariants.{BufferTooShort, OptionsTooLong, PayloadWithoutPort, FrameTooLong}
use Rattle.ns_creator.specs.declared.data.DataCreator.{DataCreator}

-- what a data frame is made of, before it is enciphered and signed: flags are the bits of FCtrl above FOptsLen, the counter has all
-- its 32 bits, and the payload is plain
pub record PlainFrame : Type 0 where
  pub dir : Dir
  pub confirmed : Bool
  pub addr : ℕ
  pub flags : ℕ
  pub counter : ℕ
  pub fopts : List ℕ
  pub port : Option ℕ
  pub payload : List ℕ

abbrev pub plain_frame : DataCreator → PlainFrame
plain_frame c = record { dir = c.dir; confirmed = c.confirmed; addr = c.addr.0; flags = c.flags; counter = c.counter; fopts = c.fopts.now; port = c.port; payload = c.payload.now }

-- the flags leave FOptsLen free and, in a downlink, the bit that is reserved there (4.3.1)
abbrev pub reserved_of : Dir → ℕ → ℕ
reserved_of Up flags = 0
reserved_of Down flags = flags / 64 % 2

abbrev pub AreFlags : Dir → ℕ → Type 0
AreFlags dir flags = (flags % 16 ≡ 0) × (reserved_of dir flags ≡ 0)

-- the frame type (4.2.1)
abbrev pub data_type : Dir → Bool → ℕ
data_type Up false = 2
data_type Down false = 3
data_type Up true = 4
data_type Down true = 5

-- the key of the payload (4.3.3)
abbrev pub payload_key : Keys → Option ℕ → Key
payload_key keys None = keys.app
payload_key keys (Some port) = if port == 0 then keys.nwk else keys.app

-- the fields as they go out, with this MIC
abbrev pub fields_with : Keys → PlainFrame → List ℕ → DataFields
fields_with keys p mic_bytes = record {
  ftype = data_type p.dir p.confirmed;
  addr = p.addr;
  fctrl = p.flags + length p.fopts;
  fcnt16 = p.counter % 65536;
  fopts = p.fopts;
  port = p.port;
  payload = cipher (payload_key keys p.port).0 p.dir p.addr p.counter p.payload;
  mic = mic_bytes;
}

-- all that the MIC is over
abbrev pub data_before_mic : Keys → PlainFrame → List ℕ
data_before_mic keys p = frame_before_mic 0 (fields_with keys p [])

-- the eight bytes of it before the options (4.2, 4.3.1)
abbrev pub data_header : PlainFrame → List ℕ
data_header p = mhdr (data_type p.dir p.confirmed) 0 ∷ to_le_bytes w32 p.addr ++ ((p.flags + length p.fopts) ∷ to_le_bytes w16 (p.counter % 65536))

-- the MIC (4.4)
abbrev pub data_mic : Keys → PlainFrame → List ℕ
data_mic keys p = mic keys.nwk.0 p.dir p.addr p.counter (data_before_mic keys p)

-- the fields as they go out
abbrev pub written_fields : Keys → PlainFrame → DataFields
written_fields keys p = fields_with keys p (data_mic keys p)

-- the frame
unfoldable pub data_frame : Keys → PlainFrame → List ℕ
data_frame keys p = data_before_mic keys p ++ data_mic keys p

-- how many bytes it has
abbrev pub frame_size : PlainFrame → ℕ
frame_size p = 12 + length p.fopts + length (ported p.port p.payload)

-- whether there is a payload and no port for it
abbrev pub lacks_port : Option ℕ → List ℕ → Bool
lacks_port None (b ∷ bytes) = true
lacks_port _ _ = false

-- the first fault of a frame that can't be written into a buffer with this room, and nothing where it can
abbrev pub data_fault : PlainFrame → ℕ → Option CreateFault
data_fault p room =
    if nat_lt 15 (length p.fopts) then Some OptionsTooLong
    else if lacks_port p.port p.payload then Some PayloadWithoutPort
    else if nat_lt 255 (frame_size p) then Some FrameTooLong
    else if nat_lt room (frame_size p) then Some (BufferTooShort (frame_size p))
    else None

-- an acknowledgement: an Unconfirmed Data Down with ACK and nothing else (4.3.1.2)
abbrev pub ack : ℕ → ℕ → PlainFrame
ack addr counter = record { dir = Down; confirmed = false; addr = addr; flags = 0x20; counter = counter; fopts = []; port = None; payload = [] }
