use Rattle.std.proofs.Common.{◌≡◌, subst}
use Rattle.std.specs.Prelude.{IfOk}
use Rattle.std.specs.Arc.{arc_value}
use Rattle.ns_shard.specs.State.{remains}
use Rattle.ns_shard.specs.Private.Parts.{state_of}
use Rattle.ns_shard.proofs.Trimmed.{names-told}
use Rattle.ns_shard.proofs.shard.Shard.open_windows.Goals as goal

pub returns : goal.returns
returns c =
    let parts = c.self.inside.parts in
    let are = c.self.invariant in
    rw (← c.self.view_is)
    (subst (λ l. IfOk c.names.result (λ v. v.items ≡ l)) (names-told (arc_value parts.roster) parts.index are.history (remains (state_of parts)) parts.devices parts.windows are.agrees are.keeps.left) c.names.ensures)
