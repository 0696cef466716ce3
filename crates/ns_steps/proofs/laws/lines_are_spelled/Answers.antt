use Rattle.ns_steps.proofs.SpelledLines.{lines-spelled, spelled-lines}
use Rattle.ns_steps.proofs.laws.lines_are_spelled.Goals as goal

pub returns : goal.returns
returns c = λ text lines. (lines-spelled text lines, spelled-lines text lines)
