use Rattle.std.proofs.Common.{◌≡◌, Some, sym}
use Rattle.ns_secure.specs.Counter.{above}
use Rattle.ns_sessions.specs.Record.{session_fit}
use Rattle.ns_sessions.proofs.Counters.{active_new}
use Rattle.ns_sessions.proofs.device.DeviceState.fit.Goals as goal

pub returns-in-Some-fit-clause-new : goal.returns-in-Some-fit-clause-new
returns-in-Some-fit-clause-new c is_above =
    let fits : session_fit above c.args.view.now c.in-Some.active ≡ Some c.in-Some-fit.fit = rw is_above at (sym c.in-Some-fit.ensures) in
    rw (← c.self.view_is) (active_new c.self.inside c.args.view.now c.in-Some.active c.in-Some-fit.fit c.in-Some.is fits)
