use Rattle.ns_calls.proofs.Merges.{a_shard_answers_alone}
use Rattle.ns_calls.proofs.laws.a_shard_answers_alone.Goals as goal

pub returns : goal.returns
returns c = a_shard_answers_alone
