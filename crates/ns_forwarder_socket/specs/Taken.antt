-- What a message of a forwarder becomes.
use Rattle.std.specs.Prelude.{ℕ, List, Result, Ok}
use Rattle.ns_types.specs.Results.{◌>>=◌}
use Rattle.ns_forwarder.specs.declared.clock.Clock.{Clock}
use Rattle.ns_forwarder.specs.declared.fault.ForwarderFault.{ForwarderFault}
use Rattle.ns_forwarder.specs.declared.head.Head.{Head}
use Rattle.ns_forwarder.specs.declared.head.Kind.{Kind}
use Rattle.ns_forwarder.specs.declared.head.Kind.TheVariants.{PushData, PullData, TxAck}
use Rattle.ns_forwarder.specs.declared.outcome.Outcome.{Outcome}
use Rattle.ns_forwarder.specs.Handed.{Handed, handed_view, handed_from, clock_from}
use Rattle.ns_forwarder.specs.Push.{push_of}
use Rattle.ns_forwarder.specs.TxAck.{tx_ack_of}
use Rattle.ns_forwarder_socket.specs.declared.taken.Taken as code
use Rattle.ns_forwarder_socket.specs.declared.taken.Taken.TheVariants as code_taken

-- what is handed on and the gateway's clock from then on, that the gateway asked for downlinks, or what came of one
pub data Taken : Type 0 where
  handed : Handed → Clock → Taken
  asked : Taken
  told : Outcome → Taken

abbrev pub taken_view : code.Taken → Taken
taken_view (code_taken.Handed h clock) = handed (handed_view h) clock
taken_view code_taken.Asked = asked
taken_view (code_taken.Told outcome) = told outcome

-- what the body of a message of a kind becomes, with the gateway's clock before, or its fault
abbrev pub taken_by : Kind → Head → List ℕ → Clock → ℕ → Result Taken ForwarderFault
taken_by PushData head body clock now = push_of body >>= λ p. Ok (handed (handed_from p head.gateway clock now) (clock_from p.items clock now))
taken_by PullData head body clock now = Ok asked
taken_by TxAck head body clock now = tx_ack_of body >>= λ outcome. Ok (told outcome)

abbrev pub taken_of : Head → List ℕ → Clock → ℕ → Result Taken ForwarderFault
taken_of head body clock now = taken_by head.kind head body clock now
