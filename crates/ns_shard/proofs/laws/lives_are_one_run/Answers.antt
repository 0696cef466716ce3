use Rattle.ns_shard.proofs.Tables.{lives-are-one-run}
use Rattle.ns_shard.proofs.laws.lives_are_one_run.Goals as goal

pub returns : goal.returns
returns c = lives-are-one-run
