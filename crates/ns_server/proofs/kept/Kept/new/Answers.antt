use Rattle.ns_server.proofs.Begun.{kept_first}
use Rattle.ns_server.proofs.kept.Kept.new.Goals as goal

pub invariant_of-result : goal.invariant_of-result
invariant_of-result g c =
    kept_first g.B.Naming.roster g.B.Naming.begun g.row.K c.args.shard c.args.book c.requires.placed c.requires.begun c.made-made.ensures.state c.requires.book.0 c.requires.book.1
