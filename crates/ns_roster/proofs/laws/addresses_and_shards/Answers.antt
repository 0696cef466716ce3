use Rattle.ns_roster.proofs.DeviceLemmas.{shard_of_device}
use Rattle.ns_roster.proofs.laws.addresses_and_shards.Goals as goal

pub returns : goal.returns
returns c = shard_of_device
