use Rattle.ns_server.proofs.Begun.{kept_trim, trim_told}
use Rattle.ns_server.proofs.kept.Kept.trim.Goals as goal

pub invariant_of-self : goal.invariant_of-self
invariant_of-self g c =
    kept_trim _ _ _ c.self.inside.shard c.trim.new.self c.self.inside.book c.trim.result c.trim.ensures.kept c.trim.ensures.err c.trim.ensures.state c.self.invariant

pub returns-clause-kept : goal.returns-clause-kept
returns-clause-kept g c = rw (← c.self.view_is) c.trim.ensures.kept

pub returns-clause-mark : goal.returns-clause-mark
returns-clause-mark g c = rw (← c.self.view_is) c.trim.ensures.mark

pub returns-clause-dropped : goal.returns-clause-dropped
returns-clause-dropped g c = rw (← c.self.view_is) c.trim.ensures.dropped

pub returns-clause-full : goal.returns-clause-full
returns-clause-full g c = rw (← c.self.view_is) c.trim.ensures.full

pub returns-clause-err : goal.returns-clause-err
returns-clause-err g c = rw (← c.self.view_is) c.trim.ensures.err

pub returns-clause-state : goal.returns-clause-state
returns-clause-state g c = (invariant_of-self g c).state

pub returns-clause-told : goal.returns-clause-told
returns-clause-told g c = trim_told _ _ c.self.inside.shard c.trim.result c.self.invariant.state c.trim.ensures.mark c.trim.ensures.dropped
