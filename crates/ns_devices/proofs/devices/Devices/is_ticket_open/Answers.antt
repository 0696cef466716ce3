use Rattle.std.proofs.Common.{sym}
use Rattle.ns_types.specs.Ticket.{dev_eui}
use Rattle.ns_devices.specs.Devices.{is_own}
use Rattle.ns_devices.proofs.Positions.{find-nowhere, find-placed}
use Rattle.ns_devices.proofs.devices.Devices.is_ticket_open.Goals as goal

pub returns-in-None : goal.returns-in-None
returns-in-None c = rw (find-nowhere (is_own (dev_eui c.args.ticket.now)) c.args.self.now (rw c.dev_eui.ensures at (sym c.in-None.ensures.place)))

pub returns-in-Some : goal.returns-in-Some
returns-in-Some c =
    let at = rw c.dev_eui.ensures at (sym c.in-Some.ensures.place) in
    let found = find-placed (is_own (dev_eui c.args.ticket.now)) c.args.self.now c.in-Some.place c.index.result.now at (rw c.self.view_is at c.index.ensures) in
    rw found c.is_open.ensures
