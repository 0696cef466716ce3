use Rattle.ns_serve_shards.proofs.DrainLemmas.{grows_line, grows_end}
use Rattle.ns_serve_shards.proofs.end.drain.Goals as goal

pub loop-turn-preserved : goal.loop-turn-preserved
loop-turn-preserved g c = grows_line _ _ _ _ _ c.loop-turn.invariant c.in_ok-hand_out-in-Some-drain_next.ensures.ok

pub returns-in-None-drain_next-clause-grows : goal.returns-in-None-drain_next-clause-grows
returns-in-None-drain_next-clause-grows g c = grows_end c.put_notices.result _ _ _ c.loop-turn.invariant c.put_notices.ensures
