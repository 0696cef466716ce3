use Rattle.ns_shard.proofs.ManyRounds.{many-devices, windows-stay-many}
use Rattle.ns_shard.proofs.laws.many_rounds_change_one_session.Goals as goal

pub returns-clause-devices : goal.returns-clause-devices
returns-clause-devices c = many-devices

pub returns-clause-windows : goal.returns-clause-windows
returns-clause-windows c = windows-stay-many
