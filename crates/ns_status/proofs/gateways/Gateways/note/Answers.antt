use Rattle.std.proofs.Common.{nat_eq, unwrap_or}
use Rattle.std.specs.Cmp.{nat_eq_equiv}
use Rattle.lru.proofs.CallerLemmas.{lookup-put_entries}
use Rattle.ns_status.specs.Gateways.{changed, unheard, gateway_at}
use Rattle.ns_status.proofs.gateways.Gateways.note.Goals as goal

pub returns-in-Ok-clause-here : goal.returns-in-Ok-clause-here
returns-in-Ok-clause-here c =
    rw (c.in-Ok.ensures.entries, c.after-after.ensures, c.at.ensures)
    (lookup-put_entries nat_eq c.args.self.now.list c.args.gateway.0 (changed (unwrap_or (gateway_at c.args.self.now c.args.gateway.0) unheard) c.args.sign c.args.now_ms) nat_eq_equiv)
