use Rattle.ns_runs.proofs.RunHistories.{next_above}
use Rattle.ns_runs.proofs.laws.next_run_accepts_above.Goals as goal

pub returns : goal.returns
returns c = next_above
