-- The messages of a join server (TS002, JoinAns), with their keys in byte order.
use Rattle.std.specs.Prelude.{ℕ, Bool, true, false, List, codes}
use Rattle.hex.specs.Hex.{encode_lower}
use Rattle.serde_json.specs.Data.{Data, number, unsigned, string, object, member, no_members}
use Rattle.ns_device.specs.declared.answer.Grant.{Grant}
use Rattle.ns_device.specs.declared.answer.Answer.{Answer}
use Rattle.ns_device.specs.declared.answer.Answer.TheVariants.{Success, MicFailed, Other}

-- the object in Result
abbrev pub result_code : List ℕ → Data
result_code code = object (member (codes "ResultCode") (string code) no_members)

-- a key that none wraps (TS002, KeyEnvelope)
abbrev pub plain_key : List ℕ → Data
plain_key text = object (member (codes "AESKey") (string text) (member (codes "KEKLabel") (string (codes "")) no_members))

-- the answer of a join that failed
abbrev pub failed : List ℕ → ℕ → Data
failed code transaction =
    object (member (codes "MessageType") (string (codes "JoinAns"))
    (member (codes "Result") (result_code code)
    (member (codes "TransactionID") (number (unsigned transaction)) no_members)))

-- the answer of a join that succeeded, with the Join-Accept and the keys in hex
abbrev pub joined : List ℕ → List ℕ → List ℕ → ℕ → Data
joined accept nwk app transaction =
    object (member (codes "AppSKey") (plain_key app)
    (member (codes "MessageType") (string (codes "JoinAns"))
    (member (codes "NwkSKey") (plain_key nwk)
    (member (codes "PHYPayload") (string accept)
    (member (codes "Result") (result_code (codes "Success"))
    (member (codes "TransactionID") (number (unsigned transaction)) no_members))))))

abbrev pub handed_over : Grant → ℕ → Data
handed_over grant transaction = joined (encode_lower grant.accept) (encode_lower grant.nwk.0) (encode_lower grant.app.0) transaction

abbrev pub message : Answer → ℕ → Data
message (Success grant) transaction = handed_over grant transaction
message MicFailed transaction = failed (codes "MICFailed") transaction
message Other transaction = failed (codes "Other") transaction

abbrev pub is_success : Answer → Bool
is_success (Success grant) = true
is_success MicFailed = false
is_success Other = false
