use Rattle.ns_recorded.proofs.Runs.{answer_same, answers_same}
use Rattle.ns_recorded.proofs.laws.answers_rest_on_the_record.Goals as goal

pub returns-clause-now : goal.returns-clause-now
returns-clause-now c = answer_same

pub returns-clause-later : goal.returns-clause-later
returns-clause-later c = answers_same
