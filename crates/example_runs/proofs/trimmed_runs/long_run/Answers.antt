use Rattle.example_runs.proofs.TrimmedRuns.{long_run}
use Rattle.example_runs.proofs.trimmed_runs.long_run.Goals as goal

pub returns : goal.returns
returns c = long_run
