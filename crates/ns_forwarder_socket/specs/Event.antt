-- What a worker is told of a message.
use Rattle.std.specs.Prelude.{◌≡◌, ℕ, ◌≤◌, List, []}
use Rattle.ns_types.specs.declared.identity.GatewayId.{GatewayId}
use Rattle.ns_forwarder.specs.Handed.{handed_view}
use Rattle.ns_forwarder_socket.specs.declared.socket.Event.{Event}
use Rattle.ns_forwarder_socket.specs.declared.socket.Event.TheVariants.{Datagram, Message, Refused, Told}
use Rattle.ns_forwarder_socket.specs.declared.taken.Taken as code
use Rattle.ns_forwarder_socket.specs.declared.taken.Taken.TheVariants as code_taken
use Rattle.ns_forwarder_socket.specs.Pending.{IsGiven}

-- a datagram fits the buffer
abbrev pub FitsBuffer : Event → Type 0
FitsBuffer (Datagram n) = n ≤ 512
FitsBuffer Message = Unit {0}
FitsBuffer (Refused fault) = Unit {0}
FitsBuffer (Told gateway outcome) = Unit {0}

-- of these datagrams the first was given and the others wait, or there are none
abbrev pub IsFirstOf : List (List ℕ) → Event → List (List ℕ) → List ℕ → Type 0
IsFirstOf datagrams (Datagram n) left buf = (n ≤ 512) × IsGiven datagrams left n buf
IsFirstOf datagrams Message left buf = datagrams ≡ []
IsFirstOf datagrams (Refused fault) left buf = ⊥
IsFirstOf datagrams (Told gateway outcome) left buf = ⊥

-- what comes of a message of a gateway, with the datagrams that wait then, and the buffer
abbrev pub IsEventOf : GatewayId → code.Taken → Event → List (List ℕ) → List ℕ → Type 0
IsEventOf gateway (code_taken.Handed handed clock) event left buf = IsFirstOf (handed_view handed).datagrams event left buf
IsEventOf gateway code_taken.Asked event left buf = event ≡ Message
IsEventOf gateway (code_taken.Told outcome) event left buf = event ≡ Told gateway outcome
