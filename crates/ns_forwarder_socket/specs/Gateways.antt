-- What is known of gateways whose forwarders were heard.
use Rattle.std.specs.Prelude.{ℕ, List, None, Some, nat_eq, unwrap_or}
use Rattle.std.specs.Map.{lookup}
use Rattle.std.specs.declared.net.socket_addr.SocketAddr.{SocketAddr}
use Rattle.lru.specs.LruCache.{lru_cache, put_entries}
use Rattle.ns_forwarder.specs.declared.clock.Clock.{Clock}
use Rattle.ns_forwarder.specs.declared.head.Head.{Head}
use Rattle.ns_forwarder_socket.specs.declared.gateways.Gateway.{Gateway}
use Rattle.ns_forwarder_socket.specs.declared.gateways.Gateways.{Gateways}
use Rattle.ns_forwarder_socket.specs.declared.gateways.Route.{Route}
use Rattle.ns_forwarder_socket.specs.declared.taken.Taken as code
use Rattle.ns_forwarder_socket.specs.declared.taken.Taken.TheVariants as code_taken

-- the gateways of which something is known, the one heard last first, and how many there may be
abbrev pub known : Gateways → List (ℕ × Gateway)
known gateways = gateways.known.entries

abbrev pub most_known : Gateways → ℕ
most_known gateways = gateways.known.cap

-- what is known of a gateway: nothing of one that is not kept
abbrev pub unknown : Gateway
unknown = record { clock = record { latest = None }; route = None }

abbrev pub gateway_at : Gateways → ℕ → Gateway
gateway_at gateways number = unwrap_or (lookup (nat_eq number) (known gateways)) unknown

-- the gateways once this is known of one: it comes first, and where it is a further one and there is no room, the last goes
abbrev pub with_gateway : Gateways → ℕ → Gateway → List (ℕ × Gateway)
with_gateway gateways number gateway = put_entries nat_eq (lru_cache (known gateways) (most_known gateways)) number gateway

-- once the counter of one was read
abbrev pub after_reading : Gateways → ℕ → Clock → List (ℕ × Gateway)
after_reading gateways number clock = with_gateway gateways number (record { clock = clock; route = (gateway_at gateways number).route })

-- once one asked for downlinks
abbrev pub after_asking : Gateways → ℕ → Route → List (ℕ × Gateway)
after_asking gateways number route = with_gateway gateways number (record { clock = (gateway_at gateways number).clock; route = Some route })

-- once a message with this head came from here: a PUSH_DATA reads the gateway's counter, and a PULL_DATA asks for downlinks
abbrev pub after_taking : Gateways → Head → code.Taken → SocketAddr → List (ℕ × Gateway)
after_taking gateways head (code_taken.Handed handed clock) peer = after_reading gateways head.gateway.0 clock
after_taking gateways head code_taken.Asked peer = after_asking gateways head.gateway.0 (record { addr = peer; version = head.version })
after_taking gateways head (code_taken.Told outcome) peer = known gateways
