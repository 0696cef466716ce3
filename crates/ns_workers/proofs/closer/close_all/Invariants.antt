use Rattle.std.proofs.Common.{◌≡◌, false, ◌≤◌, ◌-◌, take, None}
use Rattle.std.specs.Prelude.{vec_len, vec_capacity}
use Rattle.ns_workers.specs.Effects.{effects}
use Rattle.ns_workers.proofs.Closings.{Closed}
use Rattle.ns_workers.proofs.closer.close_all.Given as goal

abbrev pub invariant-loop-count : goal.invariant-loop-count
invariant-loop-count g l =
    (g.W.Stream.has_failed l.sink ≡ false) × (l.count ≤ l.limit) × (l.count ≤ vec_len l.receipts) × (l.limit ≤ vec_capacity l.receipts)
    × Closed g.S.Calls.roster l.shared.output (g.M.Monitor.has_heard l.shared.monitor.now) (g.T.Timer.has_come l.timer)
    (g.J.JobSource.given l.fn.jobs) (g.J.JobSource.given l.jobs)
    (effects (g.S.Calls.made l.fn.pass) None (g.D.Downlinks.taken l.fn.down) (g.W.Sink.taken l.fn.sink)) (effects (g.S.Calls.made l.pass) None (g.D.Downlinks.taken l.down) (g.W.Sink.taken l.sink)) (take l.count l.receipts.items)
    × (g.J.JobSource.all l.jobs ≡ g.J.JobSource.all l.fn.jobs)

abbrev pub decreases-loop-count : goal.decreases-loop-count
decreases-loop-count g l = l.limit - l.count
