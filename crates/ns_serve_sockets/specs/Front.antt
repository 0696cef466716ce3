-- What a gateway worker notes when it takes in a datagram.
use Rattle.std.specs.Prelude.{◌≡◌, ◌⊎◌, ℕ, List, Option, Some}
use Rattle.std.specs.declared.net.socket_addr.SocketAddr.{SocketAddr}
use Rattle.ns_front.specs.declared.front.Seen.{Seen}
use Rattle.ns_front.specs.declared.noted.NotedPeers.{NotedPeers}
use Rattle.ns_front.specs.Front.{seen_of}
use Rattle.ns_front.specs.Noted.{IsNoted}

-- all that is noted besides is that this gateway was heard from here, if from anywhere
abbrev pub NotesAt : NotedPeers → NotedPeers → ℕ → Option SocketAddr → Type 0
NotesAt old new gateway peer = (g : ℕ) (a : SocketAddr) (n : ℕ) → IsNoted new g a n → IsNoted old g a n ⊎ ((g ≡ gateway) × (peer ≡ Some a))

-- all that is noted besides is that the gateway that the datagram names was heard from where it came
abbrev pub NotesNamed : NotedPeers → NotedPeers → List ℕ → Option SocketAddr → Type 0
NotesNamed old new datagram peer = (g : ℕ) (a : SocketAddr) (n : ℕ) → IsNoted new g a n → IsNoted old g a n ⊎ ((peer ≡ Some a) × ((seen : Seen) × (seen_of datagram ≡ Some seen) × (g ≡ seen.gateway)))
