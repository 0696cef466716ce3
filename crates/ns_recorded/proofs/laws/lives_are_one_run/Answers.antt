use Rattle.ns_recorded.proofs.Runs.{one_run}
use Rattle.ns_recorded.proofs.laws.lives_are_one_run.Goals as goal

pub returns : goal.returns
returns c = one_run
