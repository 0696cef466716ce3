use Rattle.example_runs.proofs.LastCounter.{last_counter}
use Rattle.example_runs.proofs.runs.last_counter.Goals as goal

pub returns : goal.returns
returns c = last_counter
