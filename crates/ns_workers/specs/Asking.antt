-- What a join server answered to a ticket, and why it answered nothing.
use Rattle.std.specs.Prelude.{ℕ, ◌≡◌, Bool, true, List, Option, None, Some, Err, Ok}
use Rattle.ns_types.specs.Streams.{AppendsFront}
use Rattle.ns_types.specs.declared.ticket.Ticket.{Ticket}
use Rattle.ns_types.specs.Ticket.{dev_eui, transaction}
use Rattle.ns_roster.specs.declared.Device.{Device}
use Rattle.ns_roster.specs.Network.{Network, device}
use Rattle.ns_calls.specs.declared.call.JoinAns.{JoinAns}
use Rattle.ns_calls.specs.declared.call.Outcome.{Outcome}
use Rattle.ns_calls.specs.declared.call.Outcome.TheVariants.{Success, Failed}
use Rattle.ns_joinwire.specs.JoinReq.{joinreq}
use Rattle.ns_exchange.specs.declared.fault.AskFault.{AskFault}
use Rattle.ns_exchange.specs.declared.fault.AskFault.TheVariants as ask
use Rattle.ns_joinclient.specs.Request.{request}
use Rattle.ns_joinclient.specs.Asked.{Exchanges, IsAnswer, HasWholeBody, IsCutShort}
use Rattle.ns_outside.specs.declared.fault.JoinFault.{JoinFault}
use Rattle.ns_outside.specs.declared.fault.JoinFault.TheVariants.{NoDevice, NoMemory, NoConnection, Exchange}
use Rattle.ns_outside.specs.Notice.{Notice, ticket_unanswered}

-- a fault of an exchange on a stream, as `ask` tells it: H1, H2, want of memory, and else the first fault of the response
abbrev pub IsFault : {S : Type 0} → (S → Option (List ℕ)) → (S → Option (List ℕ)) → (S → Bool) → S → S → List ℕ → ℕ → AskFault → Type 0
IsFault taken left has_failed old new out n ask.Write =
    (has_failed new ≡ true) × AppendsFront (taken old) (taken new) out
IsFault taken left has_failed old new out n ask.Ended =
    Exchanges taken left old new out (λ bytes. IsCutShort bytes (left new) (has_failed new) n)
IsFault taken left has_failed old new out n ask.NoMemory =
    Exchanges taken left old new out (λ bytes. HasWholeBody bytes (left new))
IsFault taken left has_failed old new out n fault =
    Exchanges taken left old new out (λ bytes. IsAnswer bytes (left new) n (Err fault))

-- On a stream that was opened something became of the request about the ticket's device.
pub record IsAskedFor {S : Type 0} (has_opened : S → Type 0) (net : Network) (host : List ℕ) (t : Ticket)
    (became : S → S → List ℕ → Type 0) : Type 0 where
  pub asks : Device
  pub found : device net (dev_eui t) ≡ Some asks
  pub opened : S
  pub is_opened : has_opened opened
  pub ended : S
  pub exchange : became opened ended (request host (joinreq net asks t))

-- the request went out, and this is the JoinAns in the response that came in
abbrev pub IsAnswered : {S : Type 0} → (S → Option (List ℕ)) → (S → Option (List ℕ)) → (S → Type 0) → Network → List ℕ → Ticket → JoinAns → Type 0
IsAnswered taken left has_opened net host t answer =
    IsAskedFor has_opened net host t (λ old new out. Exchanges taken left old new out (λ bytes. IsAnswer bytes (left new) (transaction t) (Ok answer)))

-- why there is no answer: no such device, no connection, or the fault of an exchange. Of memory nothing is known
abbrev pub IsUnanswered : {S : Type 0} → (S → Option (List ℕ)) → (S → Option (List ℕ)) → (S → Bool) → (S → Type 0) → Type 0
    → Network → List ℕ → Ticket → JoinFault → Type 0
IsUnanswered taken left has_failed has_opened has_none net host t NoDevice = device net (dev_eui t) ≡ None
IsUnanswered taken left has_failed has_opened has_none net host t NoMemory = Unit {0}
IsUnanswered taken left has_failed has_opened has_none net host t NoConnection = has_none
IsUnanswered taken left has_failed has_opened has_none net host t (Exchange fault) =
    IsAskedFor has_opened net host t (λ old new out. IsFault taken left has_failed old new out (transaction t) fault)

-- an outcome has a JoinAns that the join server answered, or the monitor was told why there is none
abbrev pub HasOutcome : {S : Type 0} → (S → Option (List ℕ)) → (S → Option (List ℕ)) → (S → Bool) → (S → Type 0) → Type 0
    → (Notice → Type 0) → Network → List ℕ → Ticket → Outcome → Type 0
HasOutcome taken left has_failed has_opened has_none has_heard net host t (Success answer) =
    IsAnswered taken left has_opened net host t answer
HasOutcome taken left has_failed has_opened has_none has_heard net host t Failed =
    (why : JoinFault) × has_heard (ticket_unanswered t why) × IsUnanswered taken left has_failed has_opened has_none net host t why
