-- What became of a request to the join server.
use Rattle.std.proofs.Common.{◌≡◌, ◌≢◌, ℕ, Bool, true, List, Option, Some, Result, Ok, Err, sym, subst}
use Rattle.ns_types.specs.Streams.{AppendsFront}
use Rattle.ns_types.specs.declared.ticket.Ticket.{Ticket}
use Rattle.ns_types.specs.Ticket.{dev_eui, transaction}
use Rattle.ns_roster.specs.declared.Device.{Device}
use Rattle.ns_roster.specs.Network.{Network, device}
use Rattle.ns_calls.specs.declared.call.JoinAns.{JoinAns}
use Rattle.ns_joinwire.specs.JoinReq.{joinreq}
use Rattle.ns_exchange.specs.declared.fault.AskFault.{AskFault}
use Rattle.ns_exchange.specs.declared.fault.AskFault.TheVariants.{Write, Ended, BadHead, Status, Encoded, TooLong, Answer, NoMemory}
use Rattle.ns_joinclient.specs.Asked.{Exchanges, IsAnswer, HasWholeBody, IsCutShort}
use Rattle.ns_joinclient.specs.Reading.{IsShown}
use Rattle.ns_joinclient.specs.Request.{request}
use Rattle.ns_workers.specs.Asking.{IsAskedFor, IsAnswered, IsFault}

-- something became of the request about a ticket of a device that the roster has
asked_for : {S : Type 0} (has_opened : S → Type 0) (net : Network) (host : List ℕ) (t : Ticket) (d : Device) (opened ended : S) (text : List ℕ)
    (became : S → S → List ℕ → Type 0) → Some d ≡ device net (dev_eui t) → text ≡ joinreq net d t → has_opened opened
    → became opened ended (request host text) → IsAskedFor has_opened net host t became
asked_for has_opened net host t d opened ended text became found written is_opened exchange = record {
  asks = d;
  found = sym found;
  opened = opened;
  is_opened = is_opened;
  ended = ended;
  exchange = subst (λ out. became opened ended (request host out)) written exchange;
}

-- the answer that came, to the transaction that was asked for
pub asked_answer : {S : Type 0} (taken left : S → Option (List ℕ)) (has_opened : S → Type 0) (net : Network) (host : List ℕ) (t : Ticket)
    (d : Device) (opened ended : S) (text : List ℕ) (n : ℕ) (answer : JoinAns)
    → Some d ≡ device net (dev_eui t) → text ≡ joinreq net d t → n ≡ transaction t → has_opened opened
    → Exchanges taken left opened ended (request host text) (λ bytes. IsAnswer bytes (left ended) n (Ok answer))
    → IsAnswered taken left has_opened net host t answer
asked_answer taken left has_opened net host t d opened ended text n answer found written numbered is_opened exchange =
    asked_for has_opened net host t d opened ended text (λ old new out. Exchanges taken left old new out (λ bytes. IsAnswer bytes (left new) (transaction t) (Ok answer))) found written is_opened
    (subst (λ k. Exchanges taken left opened ended (request host text) (λ bytes. IsAnswer bytes (left ended) k (Ok answer))) numbered exchange)

-- a fault that the bytes of the response show
shown : {S : Type 0} (taken left : S → Option (List ℕ)) (old new : S) (out : List ℕ) (n : ℕ) (fault : AskFault)
    → fault ≢ Write → fault ≢ Ended → fault ≢ NoMemory
    → (IsShown fault → Exchanges taken left old new out (λ bytes. IsAnswer bytes (left new) n (Err fault)))
    → Exchanges taken left old new out (λ bytes. IsAnswer bytes (left new) n (Err fault))
shown taken left old new out n fault write ended memory exchange = exchange (write, ended, memory)

-- what is told of a fault
fault_is : {S : Type 0} (taken left : S → Option (List ℕ)) (has_failed : S → Bool) (old new : S) (out : List ℕ) (n : ℕ) (fault : AskFault) (result : Result JoinAns AskFault)
    → result ≡ Err fault
    → (result ≡ Err Write → (has_failed new ≡ true) × AppendsFront (taken old) (taken new) out)
    → (IsShown fault → Exchanges taken left old new out (λ bytes. IsAnswer bytes (left new) n (Err fault)))
    → (result ≡ Err Ended → Exchanges taken left old new out (λ bytes. IsCutShort bytes (left new) (has_failed new) n))
    → (result ≡ Err NoMemory → Exchanges taken left old new out (λ bytes. HasWholeBody bytes (left new)))
    → IsFault taken left has_failed old new out n fault
fault_is taken left has_failed old new out n Write result is unwritten told ended memory = unwritten is
fault_is taken left has_failed old new out n Ended result is unwritten told ended memory = ended is
fault_is taken left has_failed old new out n NoMemory result is unwritten told ended memory = memory is
fault_is taken left has_failed old new out n BadHead result is unwritten told ended memory = shown taken left old new out n BadHead (λ q. cc) (λ q. cc) (λ q. cc) told
fault_is taken left has_failed old new out n Status result is unwritten told ended memory = shown taken left old new out n Status (λ q. cc) (λ q. cc) (λ q. cc) told
fault_is taken left has_failed old new out n Encoded result is unwritten told ended memory = shown taken left old new out n Encoded (λ q. cc) (λ q. cc) (λ q. cc) told
fault_is taken left has_failed old new out n TooLong result is unwritten told ended memory = shown taken left old new out n TooLong (λ q. cc) (λ q. cc) (λ q. cc) told
fault_is taken left has_failed old new out n (Answer why) result is unwritten told ended memory = shown taken left old new out n (Answer why) (λ q. cc) (λ q. cc) (λ q. cc) told

-- the fault of asking for the transaction
pub asked_fault : {S : Type 0} (taken left : S → Option (List ℕ)) (has_failed : S → Bool) (has_opened : S → Type 0) (net : Network) (host : List ℕ) (t : Ticket)
    (d : Device) (opened ended : S) (text : List ℕ) (n : ℕ) (fault : AskFault) (result : Result JoinAns AskFault)
    → Some d ≡ device net (dev_eui t) → text ≡ joinreq net d t → n ≡ transaction t → has_opened opened → result ≡ Err fault
    → (result ≡ Err Write → (has_failed ended ≡ true) × AppendsFront (taken opened) (taken ended) (request host text))
    → (IsShown fault → Exchanges taken left opened ended (request host text) (λ bytes. IsAnswer bytes (left ended) n (Err fault)))
    → (result ≡ Err Ended → Exchanges taken left opened ended (request host text) (λ bytes. IsCutShort bytes (left ended) (has_failed ended) n))
    → (result ≡ Err NoMemory → Exchanges taken left opened ended (request host text) (λ bytes. HasWholeBody bytes (left ended)))
    → IsAskedFor has_opened net host t (λ old new out. IsFault taken left has_failed old new out (transaction t) fault)
asked_fault taken left has_failed has_opened net host t d opened ended text n fault result found written numbered is_opened is unwritten told cut memory =
    asked_for has_opened net host t d opened ended text (λ old new out. IsFault taken left has_failed old new out (transaction t) fault) found written is_opened
    (subst (λ k. IsFault taken left has_failed opened ended (request host text) k fault) numbered
    (fault_is taken left has_failed opened ended (request host text) n fault result is unwritten told cut memory))
