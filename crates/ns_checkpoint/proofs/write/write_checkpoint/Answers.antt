use Rattle.std.proofs.Common.{arith}
use Rattle.ns_checkpoint.proofs.WrittenLines.{shard-written, written-whole}
use Rattle.ns_checkpoint.proofs.write.write_checkpoint.Goals as goal

pub shards-preserved : goal.shards-preserved
shards-preserved g c =
    shard-written _ _ _ _ _ _ _ c.args.checkpoint.now.shards.items c.shards.number _ c.index.result.now (omega (arith, c.requires, c.shards-test.true)) c.from.ensures c.index.ensures
    c.shards.invariant c.in_ok-put_tables.ensures

pub returns : goal.returns
returns g c =
    written-whole _ _ _ _ c.args.checkpoint.now c.in-Some.lines c.shards.number _ c.in-Some.ensures c.as_slice.ensures.value (omega (arith, c.requires, c.shards-test.false))
    c.shards.invariant c.in_ok-end.ensures
