use Rattle.ns_joinwire.proofs.SpelledLemmas.{answer-spelled, spelled-answer}
use Rattle.ns_joinwire.proofs.laws.answered_exactly.Goals as goal

pub returns : goal.returns
returns c = λ bytes transaction answer. (answer-spelled bytes transaction answer, spelled-answer bytes transaction answer)
