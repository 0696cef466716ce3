use Rattle.std.proofs.Common.{subst}
use Rattle.ns_server.specs.Settled.{AreStates}
use Rattle.ns_server.proofs.settled.Settled.history.Goals as goal

pub returns-clause-states : goal.returns-clause-states
returns-clause-states g c = subst (AreStates _) c.self.view_is c.self.invariant.2
