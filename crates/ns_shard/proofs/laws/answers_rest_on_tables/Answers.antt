use Rattle.ns_shard.proofs.Tables.{now-same, after-same, later-same}
use Rattle.ns_shard.proofs.laws.answers_rest_on_tables.Goals as goal

pub returns-clause-now : goal.returns-clause-now
returns-clause-now c = now-same

pub returns-clause-after : goal.returns-clause-after
returns-clause-after c = after-same

pub returns-clause-later : goal.returns-clause-later
returns-clause-later c = later-same
