use Rattle.std.proofs.Common.{◌<◌, length, ap, arith}
use Rattle.std.proofs.lemmas.Option.{slice_get-get_or}
use Rattle.ns_server.proofs.Shards.{entries_fit, dropped_at}
use Rattle.ns_server.proofs.settled.Settled.dropped.Goals as goal

pub overflow_sub-result : goal.overflow_sub-result
overflow_sub-result g c = omega (arith, entries_fit _ c.made.ensures.state, c.made.ensures.made, ap length c.entries.ensures.entries)

pub returns : goal.returns
returns g c =
    let shards = c.self.inside.shards in
    let below : c.from.result < length shards = omega (arith, c.requires, c.self.told, c.from.ensures) in
    let at = slice_get-get_or shards c.from.result c.index-self-from.result below in
    let fit = entries_fit _ c.made.ensures.state in
    dropped_at c.args.self.now shards c.args.shard c.from.result _ _ c.self.view_is c.from.ensures at (omega (arith, fit, c.made.ensures.made, ap length c.entries.ensures.entries))
