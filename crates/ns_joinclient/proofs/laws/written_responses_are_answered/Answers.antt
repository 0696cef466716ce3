use Rattle.ns_joinclient.proofs.WrittenLemmas.{written_answer}
use Rattle.ns_joinclient.proofs.laws.written_responses_are_answered.Goals as goal

pub returns : goal.returns
returns c = written_answer
