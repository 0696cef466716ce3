use Rattle.ns_calls.proofs.FreshLemmas.{opened-new}
use Rattle.ns_calls.proofs.laws.opened_windows_are_new.Goals as goal

pub returns : goal.returns
returns c = opened-new
