use Rattle.example_runs.proofs.SentAgain.{sent_again, sent_again_lines, last_round}
use Rattle.example_runs.proofs.runs.sent_again.Goals as goal

pub returns-clause-answers : goal.returns-clause-answers
returns-clause-answers c = sent_again

pub returns-clause-lines : goal.returns-clause-lines
returns-clause-lines c = sent_again_lines

pub returns-clause-last : goal.returns-clause-last
returns-clause-last c = last_round
