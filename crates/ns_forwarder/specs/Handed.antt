-- Which datagrams the frames of a message are handed on as.
use Rattle.std.specs.Prelude.{ℕ, List, [], ◌∷◌, map, Result, Ok}
use Rattle.std.specs.List.{All}
use Rattle.ns_types.specs.Results.{◌>>=◌}
use Rattle.ns_types.specs.declared.identity.GatewayId.{GatewayId}
use Rattle.ns_types.specs.declared.heard.Heard.{Heard}
use Rattle.ns_link.specs.Datagram.{up_datagram}
use Rattle.ns_forwarder.specs.declared.clock.Clock.{Clock}
use Rattle.ns_forwarder.specs.declared.fault.ForwarderFault.{ForwarderFault}
use Rattle.ns_forwarder.specs.declared.handed.Handed as code_handed
use Rattle.ns_forwarder.specs.declared.item.Item as code
use Rattle.ns_forwarder.specs.Clock.{moment_at, clock_after}
use Rattle.ns_forwarder.specs.Rxpk.{Item}
use Rattle.ns_forwarder.specs.Uplink.{IsOfBand, heard_of}
use Rattle.ns_forwarder.specs.Push.{Push, push_of}
use Rattle.ns_forwarder.specs.Held.{item_view}

-- each item is of EU868, and its frame fits in a datagram
abbrev pub AreOfBand : List code.Item → Type 0
AreOfBand items = All (λ i. IsOfBand (item_view i)) items

-- how a gateway heard the frame of each item, and the frame: at the moment of its counter, by the gateway's clock, which follows each
abbrev pub heard_from : List Item → GatewayId → Clock → ℕ → List (Heard × List ℕ)
heard_from [] gateway clock now = []
heard_from (i ∷ rest) gateway clock now = (heard_of i gateway (moment_at clock i.counter now), i.frame) ∷ heard_from rest gateway (clock_after clock i.counter now) now

-- the gateway's clock, once the counter of each was read
abbrev pub clock_from : List Item → Clock → ℕ → Clock
clock_from [] clock now = clock
clock_from (i ∷ rest) clock now = clock_from rest (clock_after clock i.counter now) now

-- what a body is handed on as: the datagrams of its frames, and why each of the other items is left out, both in the items' order
pub record Handed : Type 0 where
  pub datagrams : List (List ℕ)
  pub left_out : List ForwarderFault

abbrev pub handed_view : code_handed.Handed → Handed
handed_view h = record { datagrams = map (λ d. d.items) h.datagrams.items; left_out = map (λ l. l.fault) h.left_out.items }

abbrev pub handed_from : Push → GatewayId → Clock → ℕ → Handed
handed_from p gateway clock now = record { datagrams = map (λ h. up_datagram h.0 h.1) (heard_from p.items gateway clock now); left_out = p.left_out }

-- what the body of a PUSH_DATA becomes, or its fault
abbrev pub handed_of : List ℕ → GatewayId → Clock → ℕ → Result Handed ForwarderFault
handed_of body gateway clock now = push_of body >>= λ p. Ok (handed_from p gateway clock now)
