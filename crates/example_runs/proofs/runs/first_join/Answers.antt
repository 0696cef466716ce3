use Rattle.example_runs.proofs.FirstJoin.{first_join, first_join_lines}
use Rattle.example_runs.proofs.runs.first_join.Goals as goal

pub returns-clause-answers : goal.returns-clause-answers
returns-clause-answers c = first_join

pub returns-clause-lines : goal.returns-clause-lines
returns-clause-lines c = first_join_lines
