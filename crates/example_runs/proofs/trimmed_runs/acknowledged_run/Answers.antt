use Rattle.example_runs.proofs.TrimmedRuns.{acknowledged_run}
use Rattle.example_runs.proofs.trimmed_runs.acknowledged_run.Goals as goal

pub returns : goal.returns
returns c = acknowledged_run
