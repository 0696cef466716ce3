use Rattle.std.proofs.Common.{◌≡◌, ◌<◌, rules, refl, ap, get_or, subst, ◌∙◌, take, min, length}
use Rattle.std.proofs.lemmas.Option.{slice_get_read}
use Rattle.ns_forwarder_socket.proofs.PendingLemmas.{IsGiven-first}
use Rattle.ns_forwarder_socket.proofs.pending.Pending.give.Goals as goal

pub returns-clause-next : goal.returns-clause-next
returns-clause-next c =
    let items = c.args.self.now.datagrams.items in
    let i = c.args.self.now.given in
    let x = c.in_ok-datagram.datagram.now in
    let found = c.in_ok-datagram.ensures.lookup in
    let within : i < length c.deref.result.now = search rules in
    let is = subst (λ xs. x ≡ get_or xs i x) c.deref.ensures.value found.1 in
    let short : c.min-n.result ≡ min 512 (length x.items) = search rules in
    IsGiven-first (λ d. d.items) items i c.min-n.result x c.copy_from_slice.new.self _ (slice_get_read items (length items) i x refl (subst (λ xs. i < length xs) c.deref.ensures.value within) is) short
    (c.copy_from_slice.ensures.after ∙ ap (λ b. take c.min-n.result b) c.as_slice.ensures.value)
