use Rattle.example_runs.proofs.TrimmedRuns.{open_run}
use Rattle.example_runs.proofs.trimmed_runs.open_run.Goals as goal

pub returns : goal.returns
returns c = open_run
