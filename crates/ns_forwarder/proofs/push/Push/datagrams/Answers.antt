use Rattle.std.proofs.Common.{◌≡◌, ◌<◌, length, get_or, subst, Ok, ◌∙◌}
use Rattle.ns_link.specs.Datagram.{up_datagram, datagram_of}
use Rattle.ns_forwarder.proofs.HandedLemmas.{heard_from-next, clock_from-next, one-behind}
use Rattle.ns_forwarder.proofs.push.Push.datagrams.Goals as goal

pub loop-item-preserved : goal.loop-item-preserved
loop-item-preserved c =
    let items = c.args.self.now.items.items in
    let n = c.loop-item.item-index in
    let i = c.item-item.result in
    let within = subst (λ xs. n < length xs) c.deref-item-items.ensures.value c.loop-item-test.true in
    let is = subst (λ xs. i ≡ get_or xs n i) c.deref-item-items.ensures.value c.item-item.is in
    let next = heard_from-next items n i c.args.gateway c.loop-item.follows c.read-moment.new.self c.read-moment.result c.args.now
    within is c.read-moment.ensures.is c.read-moment.ensures.clock in
    record {
      are = one-behind (λ d. d.items) (λ h. up_datagram h.0 h.1) c.loop-item.datagrams.items c.push.new.self.items c.in_ok-datagram.field-0 _ _ _ _
          c.in_ok-push.ensures.items next c.in_ok-datagram.ensures.is.parts c.loop-item.invariant.are;
      read_back = one-behind (λ d. datagram_of d.items) (λ h. Ok h) c.loop-item.datagrams.items c.push.new.self.items c.in_ok-datagram.field-0 _ _ _ _
          c.in_ok-push.ensures.items next c.in_ok-datagram.ensures.reads_back c.loop-item.invariant.read_back;
      follows = clock_from-next items n i c.loop-item.follows c.read-moment.new.self c.args.now
          within is c.read-moment.ensures.clock ∙ c.loop-item.invariant.follows;
    }
