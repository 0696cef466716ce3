use Rattle.ns_steps.proofs.SpelledLemmas.{step-spelled, spelled-step}
use Rattle.ns_steps.proofs.laws.steps_are_spelled.Goals as goal

pub returns : goal.returns
returns c = λ line act. (step-spelled line act, spelled-step line act)
