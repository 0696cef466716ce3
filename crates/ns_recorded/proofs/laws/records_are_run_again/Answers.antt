use Rattle.ns_recorded.proofs.Runs.{run_again, answers_again}
use Rattle.ns_recorded.proofs.laws.records_are_run_again.Goals as goal

pub returns-clause-said : goal.returns-clause-said
returns-clause-said c = run_again

pub returns-clause-answers : goal.returns-clause-answers
returns-clause-answers c = answers_again
