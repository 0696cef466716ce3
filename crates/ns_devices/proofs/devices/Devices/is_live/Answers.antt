use Rattle.std.proofs.Common.{sym}
use Rattle.ns_devices.specs.Devices.{is_own}
use Rattle.ns_devices.proofs.Positions.{find-nowhere, find-placed}
use Rattle.ns_devices.proofs.devices.Devices.is_live.Goals as goal

pub returns-in-None : goal.returns-in-None
returns-in-None c = rw (find-nowhere (is_own c.args.eui) c.args.self.now (sym c.in-None.ensures.place))

pub returns-in-Some : goal.returns-in-Some
returns-in-Some c =
    let found = find-placed (is_own c.args.eui) c.args.self.now c.in-Some.place c.index.result.now (sym c.in-Some.ensures.place) (rw c.self.view_is at c.index.ensures) in
    rw found c.is_live.ensures
