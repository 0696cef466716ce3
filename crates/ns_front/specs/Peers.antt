-- Where gateways were last heard.
use Rattle.std.specs.Prelude.{◌≡◌, ℕ, List, length, Option, None, Some, nat_eq}
use Rattle.std.specs.Map.{lookup}
use Rattle.std.specs.declared.net.socket_addr.SocketAddr.{SocketAddr}
use Rattle.lru.specs.LruCache.{lru_cache, put_entries, last_entry}
use Rattle.ns_front.specs.declared.peers.Peers.{Peers}

-- the gateways whose addresses are kept, the one heard last first, and how many there may be
abbrev pub known_peers : Peers → List (ℕ × SocketAddr)
known_peers peers = peers.heard.entries

abbrev pub most_peers : Peers → ℕ
most_peers peers = peers.heard.cap

-- the address from which a gateway was last heard, where it is kept
abbrev pub addr_of : Peers → ℕ → Option SocketAddr
addr_of peers gateway = lookup (nat_eq gateway) (known_peers peers)

-- the gateways once one of them was heard from here: it comes first, and where it is a further one and there is no room, the last goes
abbrev pub after_hearing : Peers → ℕ → SocketAddr → List (ℕ × SocketAddr)
after_hearing peers gateway addr = put_entries nat_eq (lru_cache (known_peers peers) (most_peers peers)) gateway addr

-- which one goes when a gateway is heard: where that one is not known and there is no room, the last, which was not heard for longest
pub record Goes (peers : Peers) (gateway gone : ℕ) : Type 0 where
  pub further : addr_of peers gateway ≡ None
  pub full : length (known_peers peers) ≡ most_peers peers
  pub last : (addr : SocketAddr) × (last_entry (known_peers peers) ≡ Some (gone, addr))
