use Rattle.std.proofs.Common.{◌≡◌, None, sym}
use Rattle.ns_types.specs.Ticket.{dev_eui}
use Rattle.ns_devices.specs.Devices.{is_own, own_of, with_own_join}
use Rattle.ns_devices.proofs.Positions.{find-nowhere, find-placed, change-nothing}
use Rattle.ns_devices.proofs.Euis.{values-changed, agree-set}
use Rattle.ns_devices.proofs.devices.Devices.join.Goals as goal
use Rattle.ns_devices.proofs.devices.Devices.join.Goals.{After-from_residual}

none : (c : After-from_residual) → own_of (dev_eui c.args.ticket.now) c.args.self.now ≡ None
none c = find-nowhere (is_own (dev_eui c.args.ticket.now)) c.args.self.now (rw c.dev_eui.ensures at (sym c.in_err-place.ensures.place))

pub returns-in_err-place-clause-decision : goal.returns-in_err-place-clause-decision
returns-in_err-place-clause-decision c = rw (none c) c.from_residual.ensures

pub returns-in_err-place-clause-devices : goal.returns-in_err-place-clause-devices
returns-in_err-place-clause-devices c = change-nothing (is_own (dev_eui c.args.ticket.now)) (with_own_join c.args.ticket.now c.args.heard.now) c.args.self.now (none c)

pub invariant_of-self : goal.invariant_of-self
invariant_of-self c = agree-set _ _ _ _ _ c.self.invariant c.index_mut.ensures.value c.join.ensures.device c.join.ensures.addr

pub returns-clause-decision : goal.returns-clause-decision
returns-clause-decision c =
    let at = rw c.dev_eui.ensures at (sym c.in_ok-place.ensures.place) in
    let found = find-placed (is_own (dev_eui c.args.ticket.now)) c.args.self.now c.in_ok-place.place c.index_mut.result.now at (rw c.self.view_is at c.index_mut.ensures.value) in
    rw found c.join.ensures.decision

pub returns-clause-devices : goal.returns-clause-devices
returns-clause-devices c =
    let at = rw (← c.self.view_is, c.dev_eui.ensures) at (sym c.in_ok-place.ensures.place) in
    rw (← c.self.view_is) (values-changed (is_own (dev_eui c.args.ticket.now)) (with_own_join c.args.ticket.now c.args.heard.now) _ _ _ _ at c.index_mut.ensures.value c.join.ensures.own)
