use Rattle.ns_sessions.specs.Record.{with_round}
use Rattle.ns_devices.specs.Devices.{is_own, with_state}
use Rattle.ns_devices.proofs.Euis.{values-changed, agree-state}
use Rattle.ns_devices.proofs.devices.Devices.open_again.Goals as goal

pub invariant_of-self : goal.invariant_of-self
invariant_of-self c = agree-state (with_round c.args.name.now.session c.args.name.now.round) _ _ _ _ _ c.self.invariant c.index_mut.ensures.value c.open_again.ensures

pub returns : goal.returns
returns c =
    let name = c.args.name.now in
    let at = rw (← c.self.view_is) at c.requires in
    rw (← c.self.view_is) (values-changed (is_own name.eui) (with_state (with_round name.session name.round)) _ _ _ _ at c.index_mut.ensures.value c.open_again.ensures)
