use Rattle.std.proofs.Common.{◌∙◌}
use Rattle.ns_checkpoint.proofs.Shards.{count-taken}
use Rattle.ns_checkpoint.proofs.write.lines_of.Goals as goal

pub loop-tables-preserved : goal.loop-tables-preserved
loop-tables-preserved c =
    c.in_ok-lines.ensures
    ∙ count-taken c.args.shards.now c.loop-tables.tables-index _ c.loop-tables.lines c.in_ok-more.more c.loop-tables-test.true c.tables-item.is c.loop-tables.invariant c.in_ok-more.ensures
