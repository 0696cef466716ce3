use Rattle.std.proofs.Common.{◌≡◌, ◌≢◌, ◌↔◌, ℕ, ◌<◌, ◌-◌, ◌^◌, Some, inl, inr, sym, ap, ◌∙◌, arith}
use Rattle.std.proofs.lemmas.Bool.{cases_eq}
use Rattle.std.specs.declared.net.socket_addr.SocketAddr.{SocketAddr}
use Rattle.ns_front.specs.declared.noted.NotedPeers.{NotedPeers}
use Rattle.ns_front.specs.declared.addresses.Addresses.{Addresses}
use Rattle.ns_front.specs.Peers.{addr_of}
use Rattle.ns_front.specs.Noted.{place_of, IsNoted, IsRight}
use Rattle.ns_front.proofs.addresses.Addresses.hear.Goals as goal

-- what a worker noted is right once this gateway's address in the table is noted too
put_right : (old new : NotedPeers) (addresses : Addresses) (gateway : ℕ) (addr : SocketAddr)
    → IsRight old addresses
    → ((g : ℕ) (a : SocketAddr) (n : ℕ) → place_of g ≡ place_of gateway → IsNoted new g a n → (g ≡ gateway) × ((a ≡ addr) × (n ≡ addresses.changes)))
    → ((g : ℕ) (a : SocketAddr) (n : ℕ) → place_of g ≢ place_of gateway → IsNoted new g a n ↔ IsNoted old g a n)
    → addresses.changes < 2 ^ 64 - 1
    → addr_of addresses.peers gateway ≡ Some addr
    → IsRight new addresses
put_right old new addresses gateway addr right place others counted here g a n is = elim (cases_eq (place_of g) (place_of gateway)) [
  | inl at ↦ let (eg, ea_en) = place g a n at is in
      let ea = ea_en.0 in
      let en = ea_en.1 in
      record {
        past = omega (arith, en);
        counted = omega (arith, en, counted);
        address = λ _. ap (addr_of addresses.peers) eg ∙ here ∙ ap (λ x. Some x) (sym ea);
      }
  | inr ne ↦ right g a n ((others g a n ne).0 is)
]

pub returns-then-self-lt18446744073709551615-clause-right : goal.returns-then-self-lt18446744073709551615-clause-right
returns-then-self-lt18446744073709551615-clause-right c = λ right.
    put_right c.args.noted.now c.put.new.self c.hear_counted.new.self c.args.gateway c.args.addr (c.in_ok-hear_counted.ensures.others c.args.noted.now right)
    c.put.ensures.place c.put.ensures.others c.if-self-lt18446744073709551615.true c.in_ok-hear_counted.ensures.here
