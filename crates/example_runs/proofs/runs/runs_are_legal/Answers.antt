use Rattle.example_runs.proofs.Legal.{runs_are_legal}
use Rattle.example_runs.proofs.runs.runs_are_legal.Goals as goal

pub returns : goal.returns
returns c = runs_are_legal
