use Rattle.example_runs.proofs.JsonTexts.{rosters, roster_faults, request, answers, answer_faults}
use Rattle.example_runs.proofs.runs.json_texts.Goals as goal

pub returns-clause-rosters : goal.returns-clause-rosters
returns-clause-rosters c = rosters

pub returns-clause-roster_faults : goal.returns-clause-roster_faults
returns-clause-roster_faults c = roster_faults

pub returns-clause-request : goal.returns-clause-request
returns-clause-request c = request

pub returns-clause-answers : goal.returns-clause-answers
returns-clause-answers c = answers

pub returns-clause-answer_faults : goal.returns-clause-answer_faults
returns-clause-answer_faults c = answer_faults
