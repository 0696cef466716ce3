-- What a join server's text answers to a transaction, or its first fault (TS002, JoinAns; this server's profile).
use Rattle.std.specs.Prelude.{ℕ, List, ◌==◌, ◌&&◌, bytes_eq, codes, Result, Ok}
use Rattle.std.specs.Option.{ok_or}
use Rattle.serde_json.specs.Data.{Data}
use Rattle.ns_types.specs.Results.{◌>>=◌, unless}
use Rattle.ns_calls.specs.declared.call.JoinAns.{JoinAns}
use Rattle.ns_exchange.specs.declared.answer.AnsFault.{AnsFault}
use Rattle.ns_exchange.specs.declared.answer.AnsFault.TheVariants.{NotJson, Field, AnotherMessage, Refused, NoJoinAccept, NwkSKey}
use Rattle.ns_roster.specs.Field.{value_of}
use Rattle.ns_exchange.specs.Front.{code_of}
use Rattle.ns_joinwire.specs.Parts.{head_of, body_of, nwk_key, app_key, join_accept_of}

-- the answer that a message gives to a transaction, or the first fault, by its number
abbrev pub answer_of : Data → ℕ → Result JoinAns AnsFault
answer_of message transaction = do
  head ← ok_or (head_of message) Field  -- A2
  _ ← unless AnotherMessage (bytes_eq head.message_type (codes "JoinAns") && head.transaction == transaction)  -- A3
  _ ← unless (Refused (code_of head.result_code)) (bytes_eq head.result_code (codes "Success"))  -- A4
  body ← ok_or (body_of message) Field  -- A2
  accept ← ok_or (join_accept_of body.phy_payload) NoJoinAccept  -- A5
  nwk ← ok_or (nwk_key body.nwk) NwkSKey  -- A6
  app ← ok_or (app_key body.app) Field  -- A2
  Ok (record { accept = accept; nwk = nwk; app = app })

-- that of a text's message
unfoldable pub joinans : List ℕ → ℕ → Result JoinAns AnsFault
joinans bytes transaction = do
  message ← ok_or (value_of bytes) NotJson  -- A1
  answer_of message transaction
