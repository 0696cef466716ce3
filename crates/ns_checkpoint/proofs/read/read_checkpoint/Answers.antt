use Rattle.std.proofs.Common.{refl}
use Rattle.ns_checkpoint.proofs.ReadLines.{read-whole}
use Rattle.ns_checkpoint.proofs.read.read_checkpoint.Goals as goal

pub returns-clause-text : goal.returns-clause-text
returns-clause-text g c =
    read-whole _ _ _ _ _ _ _ c.in_ok-head.head (record { ups = c.in_ok-head.head.ups; shards = c.in_ok-shards.shards })
    c.new-reading.ensures.number c.new-reading.ensures.sum c.in_ok-head.ensures c.in_ok-shards.ensures.lines c.in_ok-check_count.ensures refl c.in_ok-read_end.ensures
