use Rattle.std.proofs.Common.{rules}
use Rattle.ns_server.proofs.Begun.{first_new}
use Rattle.ns_server.proofs.server.Server.new.Goals as goal

pub over-requires-clause-shards : goal.over-requires-clause-shards
over-requires-clause-shards g c = first_new _ _ _ c.requires.begun (search rules)
