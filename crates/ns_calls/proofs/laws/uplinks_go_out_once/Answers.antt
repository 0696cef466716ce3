use Rattle.ns_calls.proofs.OnceLemmas.{uplinks_go_out_once}
use Rattle.ns_calls.proofs.laws.uplinks_go_out_once.Goals as goal

pub returns : goal.returns
returns c = uplinks_go_out_once
