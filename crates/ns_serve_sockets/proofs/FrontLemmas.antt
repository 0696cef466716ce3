-- What a gateway worker notes of a datagram, by the gateway that it names.
use Rattle.std.proofs.Common.{◌≡◌, ℕ, List, inl, inr, Option, Some, None, IfSome, sym, subst}
use Rattle.std.specs.declared.net.socket_addr.SocketAddr.{SocketAddr}
use Rattle.ns_front.specs.declared.front.FrameName.{FrameName}
use Rattle.ns_front.specs.declared.front.Seen.{Seen}
use Rattle.ns_front.specs.declared.noted.NotedPeers.{NotedPeers}
use Rattle.ns_front.specs.Front.{seen_of, Agree}
use Rattle.ns_front.specs.Noted.{IsNoted}
use Rattle.ns_serve_sockets.specs.Front.{NotesAt, NotesNamed}

pub is_named : (noted : NotedPeers) (datagram : List ℕ) (front : ℕ × FrameName) (peer : Option SocketAddr) → Agree (Some front) (seen_of datagram)
    → IfSome peer (λ p. (n : ℕ) × IsNoted noted front.0 p n) → IfSome peer (λ p. (seen : Seen) → seen_of datagram ≡ Some seen → (n : ℕ) × IsNoted noted seen.gateway p n)
is_named noted datagram front None agree at = tt
is_named noted datagram front (Some p) agree at = λ seen is.
    let both = subst (λ (s : Option Seen). Agree (Some front) s) is agree in
    subst (λ (g : ℕ). (n : ℕ) × IsNoted noted g p n) both.0 at

pub notes_named : (old new : NotedPeers) (datagram : List ℕ) (peer : Option SocketAddr) (seen : Seen) → Some seen ≡ seen_of datagram
    → NotesAt old new seen.gateway peer → NotesNamed old new datagram peer
notes_named old new datagram peer seen is notes g a n noted = elim (notes g a n noted) [
  | inl was ↦ inl was
  | inr at ↦ inr (at.1, (seen, sym is, at.0))
]
