-- Of which gateways a worker knows that their addresses are in the table.
use Rattle.std.specs.Prelude.{◌≡◌, ◌⊎◌, ℕ, ◌%◌, ◌^◌, ◌-◌, ◌<◌, ◌≤◌, Option, None, Some, slice_index_or}
use Rattle.std.specs.declared.net.socket_addr.SocketAddr.{SocketAddr}
use Rattle.ns_front.specs.Peers.{addr_of}
use Rattle.ns_front.specs.declared.noted.Noted.{Noted}
use Rattle.ns_front.specs.declared.noted.NotedPeers.{NotedPeers}
use Rattle.ns_front.specs.declared.addresses.Addresses.{Addresses}

-- at which of the 64 places a gateway stands
abbrev pub place_of : ℕ → ℕ
place_of gateway = gateway % 64

-- what stands there
abbrev pub at_place : NotedPeers → ℕ → Option Noted
at_place noted place = slice_index_or noted.places place None

-- this address of a gateway is noted, as of when addresses had changed so often
abbrev pub IsNoted : NotedPeers → ℕ → SocketAddr → ℕ → Type 0
IsNoted noted gateway addr changes = at_place noted (place_of gateway) ≡ Some (record { gateway = gateway; addr = addr; changes = changes })

-- all that is noted besides is that this gateway was heard from here
abbrev pub NotesOnly : NotedPeers → NotedPeers → ℕ → SocketAddr → Type 0
NotesOnly old new gateway addr = (g : ℕ) (a : SocketAddr) (n : ℕ) → IsNoted new g a n → IsNoted old g a n ⊎ ((g ≡ gateway) × (a ≡ addr))

-- what a worker noted is right: where no address has changed since, the gateway has this one in the table
pub record IsRightOf (addresses : Addresses) (gateway : ℕ) (addr : SocketAddr) (changes : ℕ) : Type 0 where
  pub past : changes ≤ addresses.changes
  pub counted : changes < 2 ^ 64 - 1
  pub address : changes ≡ addresses.changes → addr_of addresses.peers gateway ≡ Some addr

abbrev pub IsRight : NotedPeers → Addresses → Type 0
IsRight noted addresses = (gateway : ℕ) (addr : SocketAddr) (changes : ℕ) → IsNoted noted gateway addr changes → IsRightOf addresses gateway addr changes
