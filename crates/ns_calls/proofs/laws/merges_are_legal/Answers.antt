use Rattle.ns_calls.proofs.Merges.{merges_are_legal}
use Rattle.ns_calls.proofs.laws.merges_are_legal.Goals as goal

pub returns : goal.returns
returns c = merges_are_legal
