use Rattle.ns_calls.proofs.DecidedLemmas.{is_legal-IsLegal, IsLegal-is_legal}
use Rattle.ns_calls.proofs.laws.legality_is_decided.Goals as goal

pub returns : goal.returns
returns c net h = (is_legal-IsLegal net h, IsLegal-is_legal net h)
