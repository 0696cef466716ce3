use Rattle.std.proofs.Common.{◌≡◌, None, sym}
use Rattle.ns_sessions.specs.Record.{with_ack}
use Rattle.ns_devices.specs.Devices.{is_own, own_of, with_state}
use Rattle.ns_devices.proofs.Positions.{find-nowhere, find-placed, change-nothing}
use Rattle.ns_devices.proofs.Euis.{values-changed, agree-state}
use Rattle.ns_devices.proofs.devices.Devices.next_ack.Goals as goal
use Rattle.ns_devices.proofs.devices.Devices.next_ack.Goals.{After-from_residual}

none : (c : After-from_residual) → own_of c.args.name.now.eui c.args.self.now ≡ None
none c = find-nowhere (is_own c.args.name.now.eui) c.args.self.now (sym c.in_err-place.ensures.place)

pub returns-in_err-place-clause-number : goal.returns-in_err-place-clause-number
returns-in_err-place-clause-number c = rw (none c) c.from_residual.ensures

pub returns-in_err-place-clause-devices : goal.returns-in_err-place-clause-devices
returns-in_err-place-clause-devices c = change-nothing (is_own c.args.name.now.eui) (with_state (with_ack c.args.name.now.session)) c.args.self.now (none c)

pub invariant_of-self : goal.invariant_of-self
invariant_of-self c = agree-state (with_ack c.args.name.now.session) _ _ _ _ _ c.self.invariant c.index_mut.ensures.value c.next_ack.ensures.own

pub returns-clause-number : goal.returns-clause-number
returns-clause-number c =
    let found = find-placed (is_own c.args.name.now.eui) c.args.self.now c.in_ok-place.place c.index_mut.result.now (sym c.in_ok-place.ensures.place) (rw c.self.view_is at c.index_mut.ensures.value) in
    rw found c.next_ack.ensures.number

pub returns-clause-devices : goal.returns-clause-devices
returns-clause-devices c =
    let at = rw (← c.self.view_is) at (sym c.in_ok-place.ensures.place) in
    rw (← c.self.view_is) (values-changed (is_own c.args.name.now.eui) (with_state (with_ack c.args.name.now.session)) _ _ _ _ at c.index_mut.ensures.value c.next_ack.ensures.own)
