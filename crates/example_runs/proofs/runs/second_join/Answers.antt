use Rattle.example_runs.proofs.SecondJoin.{second_join}
use Rattle.example_runs.proofs.runs.second_join.Goals as goal

pub returns : goal.returns
returns c = second_join
