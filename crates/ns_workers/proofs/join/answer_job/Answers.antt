use Rattle.ns_output.specs.declared.output.Output.TheVariants.{Lines}
use Rattle.ns_workers.proofs.Doings.{does_reply}
use Rattle.ns_workers.proofs.join.answer_job.Goals as goal

pub returns-clause-does : goal.returns-clause-does
returns-clause-does g c =
    does_reply g.S.Calls.roster Lines (g.M.Monitor.has_heard c.args.shared.now.monitor.now) (g.S.Calls.made c.args.pass.now) (g.S.Calls.made c.make_call.new.pass)
    (g.D.Downlinks.taken c.args.down.now) (g.D.Downlinks.taken c.send_down.new.down) c.make_call.new.receipt
    c.in_ok-make_call.ensures.answered c.in_ok-make_call.ensures.counted c.in_ok-make_call.ensures.told c.send_down.ensures
