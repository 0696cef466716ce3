use Rattle.std.proofs.Common.{◌≡◌, ◌≤◌, None, length, take, refl, sym, subst, ◌∙◌}
use Rattle.ns_outside.specs.declared.fault.WorkerFault.TheVariants.{SinkFailed}
use Rattle.ns_workers.specs.Effects.{effects}
use Rattle.ns_workers.proofs.Closings.{none_yet, one_more_fits, closed_begun, closed_more, closes_end, closes_full, closes_broken, closes_fault}
use Rattle.ns_workers.proofs.Doings.{no_fault, not_that}
use Rattle.ns_workers.proofs.Servings.{has_fault}
use Rattle.ns_workers.proofs.closer.close_all.Goals as goal

pub returns-then-is_some-clause-closes : goal.returns-then-is_some-clause-closes
returns-then-is_some-clause-closes g c =
    let fault = c.close_next-fault.result in
    closes_fault g.S.Calls.roster c.args.shared.now.output (g.M.Monitor.has_heard c.args.shared.now.monitor.now) (g.T.Timer.has_come c.args.timer.now) c.args.limit
    (g.J.JobSource.given c.args.jobs.now) (g.J.JobSource.given c.loop-count.jobs) (g.J.JobSource.given c.take.new.self)
    (effects (g.S.Calls.made c.args.pass.now) None (g.D.Downlinks.taken c.args.down.now) (g.W.Sink.taken c.args.sink.now))
    (effects (g.S.Calls.made c.loop-count.pass) None (g.D.Downlinks.taken c.loop-count.down) (g.W.Sink.taken c.loop-count.sink))
    (effects (g.S.Calls.made c.close_next-fault.new.pass) None (g.D.Downlinks.taken c.close_next-fault.new.down) (g.W.Sink.taken c.close_next-fault.new.sink))
    (take c.loop-count.count c.loop-count.receipts.items) (take c.close_next-fault.new.count c.close_next-fault.new.receipts.items) c.in-Job.job fault
    (λ none. has_fault fault ⊥ (sym c.is_some.ensures ∙ c.if-is_some.true) none) c.close_next-fault.ensures.source
    c.loop-count.invariant.4 c.in-Job.ensures.given c.close_next-fault.ensures.waited c.close_next-fault.ensures.closes

pub loop-count-init : goal.loop-count-init
loop-count-init g c =
    let none = c.requires.none in
    (c.requires.sound, none_yet _ _ none, none_yet _ _ none, c.requires.room, closed_begun _ _ _ _ _ _ _ _ none, refl)

pub loop-count-preserved : goal.loop-count-preserved
loop-count-preserved g c =
    let fault = c.close_next-fault.result in
    let next = c.close_next-fault.ensures in
    let so = c.loop-count.invariant in
    let none : fault ≡ None = no_fault fault (sym c.is_some.ensures ∙ c.if-is_some.false) in (
      next.sound (not_that fault SinkFailed none),
      one_more_fits _ _ _ c.loop-count-test.true (next.count none),
      next.place,
      subst (λ n. c.args.limit ≤ n) (sym next.room) so.3,
      closed_more _ _ _ _ _ _ _ _ _ _ _ _ c.in-Job.job fault none so.4 c.in-Job.ensures.given next.waited next.closes,
      c.in-Job.ensures.same ∙ so.5,
    )

pub returns-in-End-clause-closes : goal.returns-in-End-clause-closes
returns-in-End-clause-closes g c = closes_end _ _ _ _ _ _ _ _ _ _ _ c.loop-count.invariant.4 c.in-End.ensures.given

pub returns-in-Failed-clause-closes : goal.returns-in-Failed-clause-closes
returns-in-Failed-clause-closes g c = closes_broken _ _ _ _ _ _ _ _ _ _ _ c.loop-count.invariant.4 c.in-Failed.ensures.given

pub returns-clause-closes : goal.returns-clause-closes
returns-clause-closes g c =
    let so = c.loop-count.invariant in
    let within : c.loop-count.count ≤ length c.loop-count.receipts.items = subst (λ n. c.loop-count.count ≤ n) c.loop-count.receipts.ok.0 so.2 in
    closes_full _ _ _ _ _ _ _ _ _ c.loop-count.count c.loop-count.receipts.items so.4 within so.1 c.loop-count-test.false
