use Rattle.std.proofs.Common.{◌≡◌, ◌++◌, map, drop, Ok}
use Rattle.ns_link.specs.Datagram.{up_datagram, datagram_of}
use Rattle.ns_forwarder.specs.Handed.{heard_from, clock_from}
use Rattle.ns_forwarder.specs.Held.{item_view}
use Rattle.ns_forwarder.proofs.push.Push.datagrams.Given as goal

abbrev pub invariant-loop-item : goal.invariant-loop-item
invariant-loop-item l = record {
  are : map (λ d. d.items) l.datagrams.items ++ map (λ h. up_datagram h.0 h.1) (heard_from (map item_view (drop l.item-index l.self.items.items)) l.gateway l.follows l.now)
      ≡ map (λ h. up_datagram h.0 h.1) (heard_from (map item_view l.self.items.items) l.gateway l.initial.follows l.now);
  read_back : map (λ d. datagram_of d.items) l.datagrams.items ++ map (λ h. Ok h) (heard_from (map item_view (drop l.item-index l.self.items.items)) l.gateway l.follows l.now)
      ≡ map (λ h. Ok h) (heard_from (map item_view l.self.items.items) l.gateway l.initial.follows l.now);
  follows : clock_from (map item_view (drop l.item-index l.self.items.items)) l.follows l.now ≡ clock_from (map item_view l.self.items.items) l.initial.follows l.now;
}
