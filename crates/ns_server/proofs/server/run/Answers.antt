use Rattle.ns_server.proofs.server.run.Goals as goal

pub returns-clause-answered : goal.returns-clause-answered
returns-clause-answered g c = rw c.requires c.in_ok-step_into.ensures.answered

pub returns-clause-begun : goal.returns-clause-begun
returns-clause-begun g c = rw c.requires c.in_ok-step_into.ensures.begun

pub returns-clause-counted : goal.returns-clause-counted
returns-clause-counted g c = rw c.requires c.in_ok-step_into.ensures.counted
