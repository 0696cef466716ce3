use Rattle.ns_sessions.specs.Record.{with_uplink}
use Rattle.ns_devices.specs.Devices.{is_own, with_state}
use Rattle.ns_devices.proofs.Positions.{find-placed}
use Rattle.ns_devices.proofs.Euis.{values-changed, agree-state}
use Rattle.ns_devices.proofs.devices.Devices.open.Goals as goal

pub open-requires : goal.open-requires
open-requires c =
    let found = find-placed (is_own c.args.name.now.eui) c.args.self.now c.args.place c.index_mut.result.now c.requires.place (rw c.self.view_is at c.index_mut.ensures.value) in
    rw found at c.requires.counter

pub invariant_of-self : goal.invariant_of-self
invariant_of-self c = agree-state (with_uplink c.args.name.now.session c.args.name.now.fcnt) _ _ _ _ _ c.self.invariant c.index_mut.ensures.value c.open.ensures

pub returns : goal.returns
returns c =
    let name = c.args.name.now in
    let at = rw (← c.self.view_is) at c.requires.place in
    rw (← c.self.view_is) (values-changed (is_own name.eui) (with_state (with_uplink name.session name.fcnt)) _ _ _ _ at c.index_mut.ensures.value c.open.ensures)
