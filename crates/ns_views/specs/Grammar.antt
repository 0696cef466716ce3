-- The grammar of uplink frames (LoRaWAN L2 1.0.4, 4 and 6.2.5) as relations between bytes and fields. Numbers have their lowest byte first.
use Rattle.std.specs.Prelude.{◌≡◌, ℕ, ◌+◌, ◌*◌, ◌%◌, ◌^◌, ◌<◌, ◌≤◌, ◌⊎◌, List, [], ◌∷◌, ◌++◌, length, Option, None, Some, IfSome, IfNone}
use Rattle.std.specs.Int.{w16, w32, w64, to_le_bytes}
use Rattle.ns_types.specs.Bytes.{AreBytes}

-- the frame types (4.2.1)
abbrev pub join_request : ℕ
join_request = 0

abbrev pub unconfirmed_up : ℕ
unconfirmed_up = 2

abbrev pub confirmed_up : ℕ
confirmed_up = 4

-- the fields of a data frame
pub record DataFields : Type 0 where
  pub ftype : ℕ
  pub addr : ℕ
  pub fctrl : ℕ
  pub fcnt16 : ℕ
  pub fopts : List ℕ
  pub port : Option ℕ
  pub payload : List ℕ
  pub mic : List ℕ

-- MHDR of a type, with Major 0 and the three bits that are reserved (4.2)
abbrev pub mhdr : ℕ → ℕ → ℕ
mhdr ftype reserved = ftype * 32 + reserved * 4

-- a port and the payload behind it, or neither (4.3)
abbrev pub ported : Option ℕ → List ℕ → List ℕ
ported None payload = []
ported (Some port) payload = port ∷ payload

-- what the MIC is over: all parts before it, one after the other
abbrev pub frame_before_mic : ℕ → DataFields → List ℕ
frame_before_mic reserved d = mhdr d.ftype reserved ∷ to_le_bytes w32 d.addr ++ (d.fctrl ∷ to_le_bytes w16 d.fcnt16 ++ d.fopts ++ ported d.port d.payload)

-- the bytes are the data frame with these fields (4.3)
pub record IsDataFrame (bytes : List ℕ) (d : DataFields) : Type 0 where
  pub parts : (reserved : ℕ) × (reserved < 8) × (bytes ≡ frame_before_mic reserved d ++ d.mic)
  pub ftype : (2 ≤ d.ftype) × (d.ftype ≤ 5)
  pub addr : d.addr < 2 ^ 32
  pub fctrl : d.fctrl < 256
  pub fcnt16 : d.fcnt16 < 2 ^ 16
  pub fopts : length d.fopts ≡ d.fctrl % 16
  pub fopts_bytes : AreBytes d.fopts
  pub port : IfSome d.port (λ port. port < 256)
  pub no_port : IfNone d.port (d.payload ≡ [])
  pub payload_bytes : AreBytes d.payload
  pub mic : length d.mic ≡ 4
  pub mic_bytes : AreBytes d.mic
  pub size : length bytes ≤ 255

-- the bytes are a data uplink with these fields
abbrev pub IsDataUplink : List ℕ → DataFields → Type 0
IsDataUplink bytes d = IsDataFrame bytes d × ((d.ftype ≡ unconfirmed_up) ⊎ (d.ftype ≡ confirmed_up))

-- the fields of a Join-Request
pub record JoinFields : Type 0 where
  pub join_eui : ℕ
  pub dev_eui : ℕ
  pub nonce : ℕ
  pub mic : List ℕ

-- the bytes are the Join-Request with these fields (6.2.5)
pub record IsJoinRequest (bytes : List ℕ) (j : JoinFields) : Type 0 where
  pub parts : (reserved : ℕ) × (reserved < 8) × (bytes ≡ mhdr join_request reserved ∷ to_le_bytes w64 j.join_eui ++ to_le_bytes w64 j.dev_eui ++ to_le_bytes w16 j.nonce ++ j.mic)
  pub join_eui : j.join_eui < 2 ^ 64
  pub dev_eui : j.dev_eui < 2 ^ 64
  pub nonce : j.nonce < 2 ^ 16
  pub mic : length j.mic ≡ 4
  pub mic_bytes : AreBytes j.mic
