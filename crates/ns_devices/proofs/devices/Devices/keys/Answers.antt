use Rattle.ns_devices.specs.Devices.{is_own}
use Rattle.ns_devices.proofs.Positions.{find-placed}
use Rattle.ns_devices.proofs.devices.Devices.keys.Goals as goal

pub returns : goal.returns
returns c =
    let found = find-placed (is_own c.args.name.now.eui) c.args.self.now c.args.place c.index.result.now c.requires (rw c.self.view_is at c.index.ensures) in
    rw found c.keys.ensures
