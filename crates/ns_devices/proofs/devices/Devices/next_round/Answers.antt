use Rattle.ns_devices.specs.Devices.{is_own}
use Rattle.ns_devices.proofs.Positions.{find-placed}
use Rattle.ns_devices.proofs.devices.Devices.next_round.Goals as goal

pub returns-clause-is : goal.returns-clause-is
returns-clause-is c =
    let found = find-placed (is_own c.args.fit.now.eui) c.args.self.now c.args.fit.now.place c.index.result.now c.requires (rw c.self.view_is at c.index.ensures) in
    rw found c.next_round.ensures.is
