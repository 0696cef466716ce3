-- The parts of a JoinAns (TS002; this server's profile): None where one is missing or wrong.
use Rattle.std.specs.Prelude.{ℕ, ◌/◌, ◌%◌, ◌^◌, List, [], ◌==◌, ◌&&◌, Bool, nat_lt, length, slice_index, codes, Option, Some, None, is_some, option_map, if◌then◌else◌}
use Rattle.std.specs.Option.{option_or, option_map_or}
use Rattle.serde_json.specs.Data.{Data}
use Rattle.serde_json.specs.Find.{get, as_null, as_str}
use Rattle.ns_types.specs.declared.identity.Key.{Key}
use Rattle.ns_types.specs.Options.{◌>>=◌}
use Rattle.ns_calls.specs.declared.accept.JoinAccept.{JoinAccept}
use Rattle.ns_calls.specs.Accept.{accept_bytes, accept_of}
use Rattle.ns_roster.specs.Field.{text_at, whole_at, hex_bytes}

-- a value, where it is not null
abbrev pub present : Data → Option Data
present d = if is_some (as_null d) then None else Some d

-- the value at a key; null counts as missing
abbrev pub field : List ℕ → Data → Option Data
field key d = get key d >>= present

-- ---- which message it is

-- the fields that say which message it is, and whether the join succeeded
pub record Head : Type 0 where
  pub message_type : List ℕ
  pub transaction : ℕ
  pub result_code : List ℕ

-- TransactionID: a whole number of 32 bits
abbrev pub transaction_of : Data → Option ℕ
transaction_of message = whole_at (codes "TransactionID") message >>= λ n. if nat_lt n (2 ^ 32) then Some n else None

-- ResultCode: a text in the object Result
abbrev pub result_code_of : Data → Option (List ℕ)
result_code_of message = get (codes "Result") message >>= text_at (codes "ResultCode")

abbrev pub head_of : Data → Option Head
head_of message = do
  message_type ← text_at (codes "MessageType") message
  transaction ← transaction_of message
  result_code ← result_code_of message
  Some (record { message_type = message_type; transaction = transaction; result_code = result_code })

-- ---- what it hands over

-- the text of a key, and the label of the key that wraps it, which is empty where none does (TS002, KeyEnvelope)
pub record KeyEnvelope : Type 0 where
  pub key : List ℕ
  pub label : List ℕ

-- KEKLabel: a text, or missing
abbrev pub label_of : Data → Option (List ℕ)
label_of envelope = option_map_or as_str (field (codes "KEKLabel") envelope) (Some [])

-- an object with a text AESKey, and a text KEKLabel or none
abbrev pub envelope_of : Data → Option KeyEnvelope
envelope_of envelope = do
  key ← text_at (codes "AESKey") envelope
  label ← label_of envelope
  Some (record { key = key; label = label })

-- AppSKey: an envelope, or missing
abbrev pub app_envelope : Data → Option (Option KeyEnvelope)
app_envelope message = option_map_or (λ envelope. option_map Some (envelope_of envelope)) (field (codes "AppSKey") message) (Some None)

-- the fields of a join that succeeded
pub record Body : Type 0 where
  pub phy_payload : List ℕ
  pub nwk : KeyEnvelope
  pub app : Option KeyEnvelope

abbrev pub body_of : Data → Option Body
body_of message = do
  phy_payload ← text_at (codes "PHYPayload") message
  nwk ← get (codes "NwkSKey") message >>= envelope_of
  app ← app_envelope message
  Some (record { phy_payload = phy_payload; nwk = nwk; app = app })

-- whether no key wraps this one
abbrev pub is_plain : KeyEnvelope → Bool
is_plain envelope = length envelope.label == 0

-- the key of a text: 16 bytes in hex
abbrev pub key_of : List ℕ → Option Key
key_of text = option_map (λ bytes. record { 0 = bytes }) (hex_bytes 16 text)

-- the NwkSKey: it is not wrapped
abbrev pub nwk_key : KeyEnvelope → Option Key
nwk_key envelope = if is_plain envelope then key_of envelope.key else None

-- the AppSKey, which there is where an envelope came and is not wrapped
abbrev pub app_key : Option KeyEnvelope → Option (Option Key)
app_key None = Some None
app_key (Some envelope) = if is_plain envelope then option_map Some (key_of envelope.key) else Some None

-- whether a frame's first byte is that of a Join-Accept: FType 1 in bits 7 to 5, Major 0 in bits 1 and 0 (LoRaWAN L2 1.0.4, 4.2)
abbrev pub is_join_accept : List ℕ → Bool
is_join_accept frame = (slice_index frame 0 / 32 == 1) && (slice_index frame 0 % 4 == 0)

-- a frame in hex: 17 bytes, or 33 with a CFList (LoRaWAN L2 1.0.4, 6.2.6)
abbrev pub frame_of : List ℕ → Option JoinAccept
frame_of text = option_or (hex_bytes 17 text) (hex_bytes 33 text) >>= accept_of

-- the Join-Accept of a text
abbrev pub join_accept_of : List ℕ → Option JoinAccept
join_accept_of text = do
  frame ← frame_of text
  if is_join_accept (accept_bytes frame) then Some frame else None
