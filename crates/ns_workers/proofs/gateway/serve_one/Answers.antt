use Rattle.std.proofs.Common.{[], ◌∷◌, ◌+◌, Ok, sym, ap, ◌∙◌, subst, arith}
use Rattle.ns_workers.specs.declared.gateway.Served.{Served}
use Rattle.ns_workers.specs.Effects.{effects}
use Rattle.ns_workers.specs.Serving.{Serves}
use Rattle.ns_workers.proofs.Doings.{does_call}
use Rattle.ns_workers.proofs.Servings.{serves_refused, serves_dropped, serves_called, serves_followed}
use Rattle.ns_workers.proofs.gateway.serve_one.Goals as goal

pub returns-in-Err-clause-serves : goal.returns-in-Err-clause-serves
returns-in-Err-clause-serves g c =
    let s : Served = c.args.served.now in
    let s' : Served = record { read = s.read + 1; refused = s.refused + 1; dropped = s.dropped; fault = s.fault } in
    serves_refused g.S.Calls.roster c.args.shared.now.output (g.M.Monitor.has_heard c.args.shared.now.monitor.now) (g.T.Timer.has_told c.args.timer.now) c.args.window_ms s s' _ c.args.bytes.now c.in-Err.why
    (omega arith, omega arith, omega arith) c.requires.fault c.in-Err.ensures.refused c.refused.ensures

pub returns-in_default-make_call-clause-serves : goal.returns-in_default-make_call-clause-serves
returns-in_default-make_call-clause-serves g c =
    let s : Served = c.args.served.now in
    let s' : Served = record { read = s.read + 1; refused = s.refused; dropped = s.dropped + 1; fault = s.fault } in
    let net = g.S.Calls.roster in
    let h = g.M.Monitor.has_heard c.args.shared.now.monitor.now in
    let t = g.T.Timer.has_told c.args.timer.now in
    let jobs = g.P.Jobs.taken c.args.jobs.now in
    let down = g.D.Downlinks.taken c.args.down.now in
    let text = g.W.Sink.taken c.args.sink.now in
    subst (λ p. Serves net c.args.shared.now.output h t c.args.window_ms s s' (effects (g.S.Calls.made c.args.pass.now) jobs down text) (effects p jobs down text) (c.args.bytes.now ∷ []))
    (sym c.in_default-make_call.ensures.err)
    (serves_dropped net c.args.shared.now.output h t c.args.window_ms s s' (effects (g.S.Calls.made c.args.pass.now) jobs down text) c.args.bytes.now c.put_call.new.call
    (omega arith, omega arith, omega arith) c.requires.fault c.in_default.ensures.call c.dropped.ensures)

pub returns-in-Some-clause-serves : goal.returns-in-Some-clause-serves
returns-in-Some-clause-serves g c =
    let s : Served = c.args.served.now in
    let s' : Served = record { read = s.read + 1; refused = s.refused; dropped = s.dropped; fault = c.put_job-served.result } in
    let net = g.S.Calls.roster in
    let h = g.M.Monitor.has_heard c.args.shared.now.monitor.now in
    let jobs = g.P.Jobs.taken c.args.jobs.now in
    let down = g.D.Downlinks.taken c.args.down.now in
    let text = g.W.Sink.taken c.args.sink.now in
    let r = c.make_call.new.receipt in
    serves_followed net c.args.shared.now.output h (g.T.Timer.has_told c.args.timer.now) c.args.window_ms s s' (effects (g.S.Calls.made c.args.pass.now) jobs down text) (effects (g.S.Calls.made c.make_call.new.pass) jobs down text)
    _ c.args.bytes.now r c.in-Some.job (omega arith, omega arith, omega arith)
    (c.in_default.ensures.call ∙ ap Ok (sym c.in-Ok.ensures.call)) c.in-Some.ensures
    (does_call net c.args.shared.now.output h (g.S.Calls.made c.args.pass.now) (g.S.Calls.made c.make_call.new.pass) jobs down text r c.in-Ok.ensures.answered c.in-Ok.ensures.counted c.in-Ok.ensures.told)
    c.put_job-served.ensures.follows

pub returns-in_default-job_after-clause-serves : goal.returns-in_default-job_after-clause-serves
returns-in_default-job_after-clause-serves g c =
    let s : Served = c.args.served.now in
    let s' : Served = record { read = s.read + 1; refused = s.refused; dropped = s.dropped; fault = s.fault } in
    let net = g.S.Calls.roster in
    let h = g.M.Monitor.has_heard c.args.shared.now.monitor.now in
    let jobs = g.P.Jobs.taken c.args.jobs.now in
    let down = g.D.Downlinks.taken c.args.down.now in
    let text = g.W.Sink.taken c.args.sink.now in
    let r = c.make_call.new.receipt in
    serves_called net c.args.shared.now.output h (g.T.Timer.has_told c.args.timer.now) c.args.window_ms s s' (effects (g.S.Calls.made c.args.pass.now) jobs down text) (effects (g.S.Calls.made c.make_call.new.pass) jobs down text)
    c.args.bytes.now r (omega arith, omega arith, omega arith) c.requires.fault
    (c.in_default.ensures.call ∙ ap Ok (sym c.in-Ok.ensures.call)) c.in_default-job_after.ensures
    (does_call net c.args.shared.now.output h (g.S.Calls.made c.args.pass.now) (g.S.Calls.made c.make_call.new.pass) jobs down text r c.in-Ok.ensures.answered c.in-Ok.ensures.counted c.in-Ok.ensures.told)
