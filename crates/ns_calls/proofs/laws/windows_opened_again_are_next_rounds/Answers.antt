use Rattle.ns_calls.proofs.FreshLemmas.{again-next}
use Rattle.ns_calls.proofs.laws.windows_opened_again_are_next_rounds.Goals as goal

pub returns : goal.returns
returns c = again-next
