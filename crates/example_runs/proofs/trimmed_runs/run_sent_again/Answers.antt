use Rattle.example_runs.proofs.TrimmedRuns.{run_sent_again}
use Rattle.example_runs.proofs.trimmed_runs.run_sent_again.Goals as goal

pub returns : goal.returns
returns c = run_sent_again
