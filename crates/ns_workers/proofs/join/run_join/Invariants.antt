use Rattle.std.proofs.Common.{◌≡◌, ◌≤◌, ◌-◌, ◌^◌, None}
use Rattle.ns_exchange.specs.HostText.{host_text}
use Rattle.ns_workers.specs.Answering.{IsOutcome}
use Rattle.ns_workers.specs.Asking.{HasOutcome}
use Rattle.ns_workers.specs.Effects.{effects}
use Rattle.ns_workers.proofs.Answerings.{Answered}
use Rattle.ns_workers.proofs.join.run_join.Given as goal

abbrev pub invariant-loop-joined : goal.invariant-loop-joined
invariant-loop-joined g l =
    let has_heard = g.M.Monitor.has_heard l.shared.monitor.now in
    let has_outcome = HasOutcome g.C.S.Sink.taken g.C.S.Source.left g.C.S.Stream.has_failed (g.C.Connections.has_opened l.connections)
    (g.C.Connections.has_none l.connections) has_heard l.roster (host_text l.host) in
    (l.joined.answered ≤ 2 ^ 63) × (l.joined.fault ≡ None)
    × Answered g.S.Calls.roster has_heard (IsOutcome has_heard (g.T.Timer.has_told l.timer) has_outcome)
    (g.J.JobSource.given l.fn.jobs) (g.J.JobSource.given l.jobs)
    (effects (g.S.Calls.made l.fn.pass) None (g.D.Downlinks.taken l.fn.down) None) (effects (g.S.Calls.made l.pass) None (g.D.Downlinks.taken l.down) None) l.joined.answered
    × (g.J.JobSource.all l.jobs ≡ g.J.JobSource.all l.fn.jobs)

abbrev pub decreases-loop-joined : goal.decreases-loop-joined
decreases-loop-joined g l = 9223372036854775808 - l.joined.answered
