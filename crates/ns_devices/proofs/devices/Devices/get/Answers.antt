use Rattle.std.proofs.Common.{◌≡◌, sym}
use Rattle.ns_devices.specs.Devices.{is_own}
use Rattle.ns_devices.proofs.Positions.{find-nowhere, find-placed}
use Rattle.ns_devices.proofs.devices.Devices.get.Goals as goal

pub returns-in_err-place : goal.returns-in_err-place
returns-in_err-place c = rw (c.from_residual.ensures, find-nowhere (is_own c.args.eui) c.args.self.now (sym c.in_err-place.ensures.place))

pub returns : goal.returns
returns c = sym (find-placed (is_own c.args.eui) c.args.self.now c.in_ok-place.place c.index.result.now (sym c.in_ok-place.ensures.place) (rw c.self.view_is at c.index.ensures))
