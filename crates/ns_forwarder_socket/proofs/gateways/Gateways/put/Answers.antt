use Rattle.std.proofs.Common.{nat_eq, ap, Option}
use Rattle.std.specs.Prelude.{unwrap_or}
use Rattle.std.specs.Cmp.{nat_eq_equiv}
use Rattle.lru.proofs.CallerLemmas.{lookup-put_entries}
use Rattle.ns_forwarder_socket.specs.declared.gateways.Gateway.{Gateway}
use Rattle.ns_forwarder_socket.specs.Gateways.{unknown}
use Rattle.ns_forwarder_socket.proofs.gateways.Gateways.put.Goals as goal

pub returns-in-Ok-clause-here : goal.returns-in-Ok-clause-here
returns-in-Ok-clause-here c =
    rw c.in-Ok.ensures.entries (ap (λ (found : Option Gateway). unwrap_or found unknown)
    (lookup-put_entries nat_eq c.args.self.now.known c.args.number c.args.gateway nat_eq_equiv))
