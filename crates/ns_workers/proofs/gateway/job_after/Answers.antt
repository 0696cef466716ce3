use Rattle.ns_workers.proofs.Servings.{due_at_told}
use Rattle.ns_workers.proofs.gateway.job_after.Goals as goal

pub returns : goal.returns
returns g c =
    due_at_told (g.T.Timer.has_told c.args.timer.now) c.args.window_ms c.args.reply.now c.now.result c.job_of.result c.now.ensures c.job_of.ensures
