use Rattle.std.proofs.Common.{[], ◌∷◌, None, Some, refl, sym, ap, ◌∙◌, subst}
use Rattle.ns_outside.specs.declared.fault.WorkerFault.TheVariants.{NoMemory, SinkFailed}
use Rattle.ns_workers.specs.Effects.{Does, effects}
use Rattle.ns_workers.specs.Job.{call_at_once}
use Rattle.ns_workers.proofs.Doings.{does_own, does_put}
use Rattle.ns_workers.proofs.Servings.{follows_put, follows_itself, follows_unsent, follows_undone}
use Rattle.ns_workers.proofs.gateway.put_job.Goals as goal

pub returns-in_default-clause-follows : goal.returns-in_default-clause-follows
returns-in_default-clause-follows g c =
    let net = g.S.Calls.roster in
    let h = g.M.Monitor.has_heard c.args.shared.now.monitor.now in
    follows_put net c.args.shared.now.output h c.args.job _ _
    (does_put net c.args.shared.now.output h None (g.S.Calls.made c.args.pass.now) (g.P.Jobs.taken c.args.jobs.now) (g.P.Jobs.taken c.put.new.self) (g.D.Downlinks.taken c.args.down.now) (g.W.Sink.taken c.args.sink.now)
    (c.args.job ∷ []) c.in_default.ensures.put)

pub returns-in_default-make_call-clause-follows : goal.returns-in_default-make_call-clause-follows
returns-in_default-make_call-clause-follows g c =
    let net = g.S.Calls.roster in
    let h = g.M.Monitor.has_heard c.args.shared.now.monitor.now in
    let down = g.D.Downlinks.taken c.args.down.now in
    let text = g.W.Sink.taken c.args.sink.now in
    let before = g.P.Jobs.taken c.args.jobs.now in
    let after = g.P.Jobs.taken c.put.new.self in
    follows_undone net c.args.shared.now.output h c.args.job _ _
    (subst (λ p. Does net c.args.shared.now.output h (Some NoMemory) (effects (g.S.Calls.made c.args.pass.now) before down text) (effects p after down text) [] [] [])
    (sym c.in_default-make_call.ensures.err)
    (does_put net c.args.shared.now.output h (Some NoMemory) (g.S.Calls.made c.args.pass.now) before after down text [] c.in-Err.ensures.kept))

pub returns-in-Ok-hand_out-clause-follows : goal.returns-in-Ok-hand_out-clause-follows
returns-in-Ok-hand_out-clause-follows g c =
    let net = g.S.Calls.roster in
    let h = g.M.Monitor.has_heard c.args.shared.now.monitor.now in
    follows_itself net c.args.shared.now.output h c.args.job c.make_call.new.receipt _ _
    (c.in-Ok.ensures.call ∙ c.call_at_once.ensures ∙ ap call_at_once c.in-Err.ensures.back)
    (does_own net c.args.shared.now.output h None (g.S.Calls.made c.args.pass.now) (g.S.Calls.made c.make_call.new.pass) (g.P.Jobs.taken c.args.jobs.now) (g.P.Jobs.taken c.put.new.self)
    (g.D.Downlinks.taken c.args.down.now) (g.D.Downlinks.taken c.hand_out.new.down) (g.W.Sink.taken c.args.sink.now) (g.W.Sink.taken c.hand_out.new.sink) c.make_call.new.receipt
    c.in-Ok.ensures.answered c.in-Ok.ensures.counted c.in-Ok.ensures.told c.in-Err.ensures.kept c.in-Ok-hand_out.ensures.down
    (λ _. c.in-Ok-hand_out.ensures.ok) c.in-Ok-hand_out.ensures.front)

pub returns-in-Err-hand_out-clause-follows : goal.returns-in-Err-hand_out-clause-follows
returns-in-Err-hand_out-clause-follows g c =
    let net = g.S.Calls.roster in
    let h = g.M.Monitor.has_heard c.args.shared.now.monitor.now in
    follows_unsent net c.args.shared.now.output h c.args.job c.make_call.new.receipt _ _
    (c.in-Ok.ensures.call ∙ c.call_at_once.ensures ∙ ap call_at_once c.in-Err.ensures.back)
    (does_own net c.args.shared.now.output h (Some SinkFailed) (g.S.Calls.made c.args.pass.now) (g.S.Calls.made c.make_call.new.pass) (g.P.Jobs.taken c.args.jobs.now) (g.P.Jobs.taken c.put.new.self)
    (g.D.Downlinks.taken c.args.down.now) (g.D.Downlinks.taken c.hand_out.new.down) (g.W.Sink.taken c.args.sink.now) (g.W.Sink.taken c.hand_out.new.sink) c.make_call.new.receipt
    c.in-Ok.ensures.answered c.in-Ok.ensures.counted c.in-Ok.ensures.told c.in-Err.ensures.kept c.in-Err-hand_out.ensures.down
    (λ other. absurd (other refl)) c.in-Err-hand_out.ensures.front)
