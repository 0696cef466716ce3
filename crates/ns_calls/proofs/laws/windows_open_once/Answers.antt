use Rattle.ns_calls.proofs.WindowLemmas.{windows_open_once}
use Rattle.ns_calls.proofs.laws.windows_open_once.Goals as goal

pub returns : goal.returns
returns c = windows_open_once
