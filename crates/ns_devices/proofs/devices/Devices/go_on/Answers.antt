use Rattle.std.proofs.Common.{sym, ◌∙◌}
use Rattle.ns_sessions.specs.Record.{with_rounds}
use Rattle.ns_devices.specs.Devices.{is_own, with_state}
use Rattle.ns_devices.proofs.Positions.{find-nowhere, change-nothing}
use Rattle.ns_devices.proofs.Euis.{values-changed, agree-state}
use Rattle.ns_devices.proofs.devices.Devices.go_on.Goals as goal

pub returns-in_default : goal.returns-in_default
returns-in_default c =
    change-nothing (is_own c.args.name.now.eui) (with_state (with_rounds c.args.name.now.session c.args.round c.args.next_ack)) c.args.self.now
    (find-nowhere (is_own c.args.name.now.eui) c.args.self.now (sym c.place.ensures.place ∙ c.in_default.is))

pub invariant_of-self : goal.invariant_of-self
invariant_of-self c = agree-state (with_rounds c.args.name.now.session c.args.round c.args.next_ack) _ _ _ _ _ c.self.invariant c.index_mut.ensures.value c.go_on.ensures

pub returns : goal.returns
returns c =
    let name = c.args.name.now in
    let at = rw (← c.self.view_is) at (sym c.in-Some.ensures.place) in
    rw (← c.self.view_is) (values-changed (is_own name.eui) (with_state (with_rounds name.session c.args.round c.args.next_ack)) _ _ _ _ at c.index_mut.ensures.value c.go_on.ensures)
