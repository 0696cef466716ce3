use Rattle.std.proofs.Common.{sym, ◌∙◌}
use Rattle.std.proofs.lemmas.List.{same_from_push}
use Rattle.ns_server.proofs.Begun.{kept_first}
use Rattle.ns_server.proofs.server.new_lock.Goals as goal

-- the shard that is taken is the last of those with which the server begins
pub invariant_of-new : goal.invariant_of-new
invariant_of-new g c =
    let last = same_from_push _ _ _ _ (sym (rw c.unwrap-shard.ensures at c.pop.ensures.items) ∙ c.requires.shards.below) in
    kept_first g.B.Naming.roster g.B.Naming.begun g.row.K c.unwrap-shard.result c.args.book (c.requires.shards.placed g.row.K) last.1 c.made-made.ensures.state c.requires.book.0 c.requires.book.1

pub returns : goal.returns
returns g c =
    let last = same_from_push _ _ _ _ (sym (rw c.unwrap-shard.ensures at c.pop.ensures.items) ∙ c.requires.shards.below) in
    record { below = last.0; placed = c.requires.shards.placed }
