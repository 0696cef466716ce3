-- The answer that a join server's text spells for a transaction, said without an order of tests (TS002, JoinAns; this server's profile).
use Rattle.std.specs.Prelude.{ℕ, ◌≡◌, ◌<◌, ◌⊎◌, List, [], length, codes, Option, Some, None}
use Rattle.serde_json.specs.Data.{Data}
use Rattle.serde_json.specs.Find.{get}
use Rattle.ns_types.specs.declared.identity.Key.{Key}
use Rattle.ns_calls.specs.declared.call.JoinAns.{JoinAns}
use Rattle.ns_roster.specs.Field.{value_of, text_at, hex_bytes}
use Rattle.ns_joinwire.specs.Parts.{field, transaction_of, result_code_of, label_of, join_accept_of}

-- the value spells a key: 16 bytes in hex, which no key wraps
pub record SpellsKey (envelope : Data) (key : Key) : Type 0 where
  pub text : List ℕ
  pub aes_key : text_at (codes "AESKey") envelope ≡ Some text
  pub bytes : hex_bytes 16 text ≡ Some key.0
  pub plain : label_of envelope ≡ Some []

-- the value spells a key that is wrapped under the key of some label
pub record SpellsWrappedKey (envelope : Data) : Type 0 where
  pub text : List ℕ
  pub aes_key : text_at (codes "AESKey") envelope ≡ Some text
  pub label : List ℕ
  pub wrapped : label_of envelope ≡ Some label
  pub named : 0 < length label

-- the message spells the AppSKey, or none: it has none, or one that is wrapped
abbrev pub SpellsAppSKey : Data → Option Key → Type 0
SpellsAppSKey message (Some key) = (envelope : Data) × (field (codes "AppSKey") message ≡ Some envelope) × SpellsKey envelope key
SpellsAppSKey message None = (field (codes "AppSKey") message ≡ None) ⊎ ((envelope : Data) × (field (codes "AppSKey") message ≡ Some envelope) × SpellsWrappedKey envelope)

-- the message spells the answer to a transaction
pub record SpellsAnswer (message : Data) (transaction : ℕ) (answer : JoinAns) : Type 0 where
  pub message_type : text_at (codes "MessageType") message ≡ Some (codes "JoinAns")
  pub transaction_id : transaction_of message ≡ Some transaction
  pub result_code : result_code_of message ≡ Some (codes "Success")
  pub frame : List ℕ
  pub phy_payload : text_at (codes "PHYPayload") message ≡ Some frame
  pub accept : join_accept_of frame ≡ Some answer.accept
  pub nwk_envelope : Data
  pub nwk_s_key : get (codes "NwkSKey") message ≡ Some nwk_envelope
  pub nwk : SpellsKey nwk_envelope answer.nwk
  pub app : SpellsAppSKey message answer.app

-- the bytes spell the answer to a transaction
abbrev pub Spells : List ℕ → ℕ → JoinAns → Type 0
Spells bytes transaction answer = (message : Data) × (value_of bytes ≡ Some message) × SpellsAnswer message transaction answer
