use Rattle.std.proofs.Common.{◌≡◌, false}
use Rattle.ns_serve_workers.specs.Turns.{HasReceipts}
use Rattle.ns_serve_workers.proofs.closing.close_turns.Given as goal

-- the lines that are held have not failed, and the pass has risen by receipts
abbrev pub invariant-loop-turn : goal.invariant-loop-turn
invariant-loop-turn g l = (l.closer.held.failed ≡ false) × HasReceipts g.S.Calls.roster (g.M.Monitor.has_heard l.around.monitor.now) (g.S.Calls.made l.fn.pass) (g.S.Calls.made l.pass)
