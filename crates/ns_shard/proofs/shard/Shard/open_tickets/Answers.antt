use Rattle.std.proofs.Common.{◌≡◌, subst}
use Rattle.std.specs.Prelude.{IfOk}
use Rattle.ns_shard.proofs.Asked.{asked-is}
use Rattle.ns_shard.proofs.shard.Shard.open_tickets.Goals as goal

pub returns : goal.returns
returns c =
    rw (← c.self.view_is)
    (subst (λ l. IfOk c.open_tickets.result (λ v. v.items ≡ l)) (asked-is c.self.inside.parts c.self.invariant c.entries.result.now c.entries.ensures) c.open_tickets.ensures)
