use Rattle.std.proofs.Common.{◌≡◌, ◌+◌, ◌^◌, None, refl, sym, ◌∙◌, zero-le, lit<, lt_of_le_of_lt}
use Rattle.ns_outside.specs.declared.fault.WorkerFault.TheVariants.{SinkFailed}
use Rattle.ns_workers.specs.Effects.{effects}
use Rattle.ns_workers.proofs.Doings.{no_fault, not_that}
use Rattle.ns_workers.proofs.Servings.{Heard, heard_first, heard_idle, heard_more, serves_to_end, serves_broken, serves_fault, all_read, still_few, has_fault}
use Rattle.ns_workers.proofs.gateway.run_gateway.Goals.{then-is_some-via-then-is_some, then-is_some-via-else-is_some+then-served-ge-MOST}
use Rattle.ns_workers.proofs.gateway.run_gateway.Goals as goal

pub returns-then-is_some-clause-serves : goal.returns-then-is_some-clause-serves
returns-then-is_some-clause-serves g c =
    let net = g.S.Calls.roster in
    let h = g.M.Monitor.has_heard c.args.shared.now.monitor.now in
    let t = g.T.Timer.has_told c.args.timer.now in
    let old = g.I.Datagrams.given c.args.datagrams.now in
    let new = g.I.Datagrams.given c.next-in-loop-turn.new.self in
    let before = effects (g.S.Calls.made c.args.pass.now) (g.P.Jobs.taken c.args.jobs.now) (g.D.Downlinks.taken c.args.down.now) (g.W.Sink.taken c.args.sink.now) in
    let after = effects (g.S.Calls.made c.serve_one.new.pass) (g.P.Jobs.taken c.serve_one.new.jobs) (g.D.Downlinks.taken c.serve_one.new.down) (g.W.Sink.taken c.serve_one.new.sink) in
    let so : Heard net c.args.shared.now.output h t c.args.window_ms old new before after c.serve_one.new.served =
    heard_more net c.args.shared.now.output h t c.args.window_ms old (g.I.Datagrams.given c.loop-turn.datagrams) new before
    (effects (g.S.Calls.made c.loop-turn.pass) (g.P.Jobs.taken c.loop-turn.jobs) (g.D.Downlinks.taken c.loop-turn.down) (g.W.Sink.taken c.loop-turn.sink)) after
    c.loop-turn.served c.serve_one.new.served c.in-Got.n _ c.loop-turn.invariant.7 c.loop-turn.invariant.3 c.in-Got.ensures.given c.serve_one.ensures.serves in
    let read : c.serve_one.new.served.read ≡ c.loop-turn.served.read + 1 = c.serve_one.ensures.serves.read in
    let few = c.loop-turn.invariant.4 in
    serves_fault net c.args.shared.now.output h t c.args.window_ms old new before after c.serve_one.new.served so c.serve_one.ensures.source
    (elim c.then-is_some.branch [
      | then-is_some-via-then-is_some w ↦ λ none. has_fault c.serve_one.new.served.fault (c.serve_one.new.served.read ≡ 2 ^ 63) (sym c.is_some.ensures ∙ w.if-is_some.true) none
      | then-is_some-via-else-is_some+then-served-ge-MOST w ↦ λ none. all_read c.loop-turn.served.read c.serve_one.new.served.read few read w.if-served-ge-MOST.true
    ])

pub loop-turn-init : goal.loop-turn-init
loop-turn-init g c = (tt, tt, c.requires, refl, lit< tt, zero-le, zero-le, heard_first _ _ _ _ _ _ _)

pub loop-turn-preserved : goal.loop-turn-preserved
loop-turn-preserved g c =
    let so = c.loop-turn.invariant in
    let next = c.serve_one.ensures in
    let fault = c.serve_one.new.served.fault in
    let none : fault ≡ None = no_fault fault (sym c.is_some.ensures ∙ c.if-is_some.false) in (
      tt,
      tt,
      next.sound (not_that fault SinkFailed none),
      none,
      c.if-served-ge-MOST.false,
      still_few _ _ _ _ so.5 next.few.0 next.serves.read,
      still_few _ _ _ _ so.6 next.few.1 next.serves.read,
      heard_more _ _ _ _ _ _ _ _ _ _ _ _ _ c.in-Got.n c.next-in-loop-turn.new.buf so.7 so.3 c.in-Got.ensures.given next.serves,
    )

pub loop-turn-preserved-in-Idle : goal.loop-turn-preserved-in-Idle
loop-turn-preserved-in-Idle g c =
    let so = c.loop-turn.invariant in
    (tt, tt, so.2, so.3, so.4, so.5, so.6, heard_idle _ _ _ _ _ _ _ _ _ _ _ c.next-in-loop-turn.new.buf so.7 c.in-Idle.ensures.given)

pub returns-in-End-clause-serves : goal.returns-in-End-clause-serves
returns-in-End-clause-serves g c = serves_to_end _ _ _ _ _ _ _ _ _ _ _ c.next-in-loop-turn.new.buf c.loop-turn.invariant.7 c.loop-turn.invariant.3 c.in-End.ensures.given

pub returns-in-Failed-clause-serves : goal.returns-in-Failed-clause-serves
returns-in-Failed-clause-serves g c = serves_broken _ _ _ _ _ _ _ _ _ _ _ _ c.next-in-loop-turn.new.buf c.loop-turn.invariant.7 c.loop-turn.invariant.3 c.in-Failed.ensures.given refl

pub serve_one-requires-clause-counts : goal.serve_one-requires-clause-counts
serve_one-requires-clause-counts g c =
    let so = c.loop-turn.invariant in
    (so.4, lt_of_le_of_lt so.5 so.4, lt_of_le_of_lt so.6 so.4)

pub returns-in-End-clause-failed : goal.returns-in-End-clause-failed
returns-in-End-clause-failed g c = λ that. absurd (not_that c.loop-turn.served.fault SinkFailed c.loop-turn.invariant.3 that)
