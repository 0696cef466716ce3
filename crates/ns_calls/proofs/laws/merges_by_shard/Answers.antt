use Rattle.ns_calls.proofs.Merged.{merge-made_of, made_of-merge}
use Rattle.ns_calls.proofs.laws.merges_by_shard.Goals as goal

pub returns : goal.returns
returns c parts whole own = (merge-made_of parts whole own, made_of-merge whole parts)
