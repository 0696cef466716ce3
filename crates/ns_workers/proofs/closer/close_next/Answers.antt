use Rattle.std.proofs.Common.{rules, None, Some, refl}
use Rattle.ns_outside.specs.declared.fault.WorkerFault.TheVariants.{SinkFailed}
use Rattle.ns_workers.proofs.Closings.{put_behind}
use Rattle.ns_workers.proofs.Doings.{does_own}
use Rattle.ns_workers.proofs.closer.close_next.Goals as goal

pub returns-in-Ok-hand_out-clause-closes : goal.returns-in-Ok-hand_out-clause-closes
returns-in-Ok-hand_out-clause-closes g c =
    let r = c.close_due.new.receipt in
    let placed = put_behind c.args.receipts.now.items c.make_place.new.receipts.items c.args.count.now r c.make_place.ensures.before (search rules) in (
      r,
      placed,
      c.in-Ok.ensures.call,
      does_own g.S.Calls.roster c.args.shared.now.output (g.M.Monitor.has_heard c.args.shared.now.monitor.now) None (g.S.Calls.made c.args.pass.now) (g.S.Calls.made c.close_due.new.pass) None None
          (g.D.Downlinks.taken c.args.down.now) (g.D.Downlinks.taken c.hand_out.new.down) (g.W.Sink.taken c.args.sink.now) (g.W.Sink.taken c.hand_out.new.sink) r
          c.in-Ok.ensures.answered c.in-Ok.ensures.counted c.in-Ok.ensures.told tt c.in-Ok-hand_out.ensures.down (λ _. c.in-Ok-hand_out.ensures.ok) c.in-Ok-hand_out.ensures.front,
    )

pub returns-in-Err-clause-closes : goal.returns-in-Err-clause-closes
returns-in-Err-clause-closes g c =
    let r = c.close_due.new.receipt in
    let placed = put_behind c.args.receipts.now.items c.make_place.new.receipts.items c.args.count.now r c.make_place.ensures.before (search rules) in (
      r,
      placed,
      c.in-Ok.ensures.call,
      does_own g.S.Calls.roster c.args.shared.now.output (g.M.Monitor.has_heard c.args.shared.now.monitor.now) (Some SinkFailed) (g.S.Calls.made c.args.pass.now) (g.S.Calls.made c.close_due.new.pass) None None
          (g.D.Downlinks.taken c.args.down.now) (g.D.Downlinks.taken c.hand_out.new.down) (g.W.Sink.taken c.args.sink.now) (g.W.Sink.taken c.hand_out.new.sink) r
          c.in-Ok.ensures.answered c.in-Ok.ensures.counted c.in-Ok.ensures.told tt c.in-Err.ensures.down (λ other. absurd (other refl)) c.in-Err.ensures.front,
    )
