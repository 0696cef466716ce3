-- A join through the join server: what its caller reads in the reply, and what the device has of the Join-Accept.
use Rattle.std.specs.Prelude.{ℕ, ◌≡◌, List, slice_index, length, codes, ⊤, Option, None, Some, Result, Ok, Err}
use Rattle.hex.specs.Hex.{encode_lower}
use Rattle.ns_types.specs.declared.identity.Key.{Key}
use Rattle.ns_types.specs.Ticket.{dev_eui, nonce}
use Rattle.ns_calls.specs.declared.call.JoinAns.{JoinAns}
use Rattle.ns_calls.specs.declared.accept.JoinAccept.TheVariants.{Plain}
use Rattle.ns_roster.specs.Field.{hex_bytes}
use Rattle.ns_exchange.specs.declared.answer.AnsFault.{AnsFault}
use Rattle.ns_exchange.specs.declared.answer.AnsFault.TheVariants.{Refused}
use Rattle.ns_exchange.specs.Front.{code_of}
use Rattle.ns_joinwire.specs.JoinAns.{joinans}
use Rattle.ns_device.specs.declared.request.JoinReq.{JoinReq}
use Rattle.ns_device.specs.declared.answer.Grant.{Grant}
use Rattle.ns_device.specs.declared.answer.Answer.{Answer}
use Rattle.ns_device.specs.declared.answer.Answer.TheVariants.{Success, MicFailed, Other}
use Rattle.ns_device.specs.Accept.{deciphered, accept_fault, session_of_accept}
use Rattle.ns_device.specs.Server.{JoinServer, app_key, answer_to}

-- what `join_ans` of ns_joinwire reads of an answer
abbrev pub read_of : Answer → Result JoinAns AnsFault
read_of (Success grant) = Ok (record { accept = Plain grant.accept; nwk = grant.nwk; app = Some grant.app })
read_of MicFailed = Err (Refused (code_of (codes "MICFailed")))
read_of Other = Err (Refused (code_of (codes "Other")))

-- The device with this AppKey takes the Join-Accept as the answer to its Join-Request. It has then the request's address
-- and the session keys that are handed over.
pub record IsTaken (key : Key) (r : JoinReq) (grant : Grant) : Type 0 where
  pub no_fault : accept_fault key.0 grant.accept ≡ None
  pub session : session_of_accept key.0 (nonce r.ticket) (deciphered key.0 grant.accept) ≡ record { addr = r.addr; nwk = grant.nwk; app = grant.app }

abbrev pub IsTakenIfGranted : Option Key → JoinReq → Answer → Type 0
IsTakenIfGranted (Some key) r (Success grant) = IsTaken key r grant
IsTakenIfGranted _ r _ = ⊤

-- the text answers the request, and what it grants is taken
pub record IsAnswered (server : JoinServer) (text : List ℕ) (r : JoinReq) : Type 0 where
  pub read : joinans text r.transaction ≡ read_of (answer_to server r)
  pub taken : IsTakenIfGranted (app_key server (dev_eui r.ticket).0) r (answer_to server r)

-- ---- for private clauses

-- the first byte is that of a Join-Accept
abbrev pub BeginsAccept : Answer → Type 0
BeginsAccept (Success grant) = slice_index grant.accept 0 ≡ 0x20
BeginsAccept MicFailed = ⊤
BeginsAccept Other = ⊤

-- the hex of these bytes is read back
abbrev pub HexReadsBack : ℕ → List ℕ → Type 0
HexReadsBack n bytes = (length bytes ≡ n) × (hex_bytes n (encode_lower bytes) ≡ Some bytes)

abbrev pub GrantReadsBack : Grant → Type 0
GrantReadsBack grant = HexReadsBack 17 grant.accept × HexReadsBack 16 grant.nwk.0 × HexReadsBack 16 grant.app.0

abbrev pub ReadsBack : Answer → Type 0
ReadsBack (Success grant) = GrantReadsBack grant
ReadsBack MicFailed = ⊤
ReadsBack Other = ⊤
