use Rattle.std.proofs.Common.{sym, ◌∙◌}
use Rattle.ns_server.proofs.Begun.{first_at}
use Rattle.ns_server.proofs.server.Server.resume.Goals as goal

pub over-requires-clause-shards : goal.over-requires-clause-shards
over-requires-clause-shards g c =
    first_at g.B.Naming.roster g.B.Naming.begun c.args.shards.items c.requires.begun (sym c.args.shards.ok.0 ∙ c.requires.sixteen) c.requires.places
