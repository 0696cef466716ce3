use Rattle.std.proofs.Common.{ap, sym, ◌∙◌, subst}
use Rattle.ns_shard.specs.State.{State, after_trim}
use Rattle.ns_server.specs.Kept.{IsStateOf, IsKept}
use Rattle.ns_server.proofs.Begun.{kept_trim}
use Rattle.ns_server.proofs.kept.Kept.trim_in_place.Goals as goal

-- a refused trim

pub invariant_of-self : goal.invariant_of-self
invariant_of-self g c = subst (λ (s : State). IsKept g.B.Naming.roster (g.B.Naming.begun g.row.K) g.row.K s c.self.inside.book) (sym c.in-Err.ensures.err) c.self.invariant

pub returns-in-Err-clause-kept : goal.returns-in-Err-clause-kept
returns-in-Err-clause-kept g c = tt

pub returns-in-Err-clause-mark : goal.returns-in-Err-clause-mark
returns-in-Err-clause-mark g c = tt

pub returns-in-Err-clause-err : goal.returns-in-Err-clause-err
returns-in-Err-clause-err g c = c.in-Err.ensures.err ∙ c.self.view_is

pub returns-in-Err-clause-state : goal.returns-in-Err-clause-state
returns-in-Err-clause-state g c = subst (IsStateOf g.B.Naming.roster g.row.K) (sym c.in-Err.ensures.err) c.self.invariant.state

pub returns-in-Err-clause-told : goal.returns-in-Err-clause-told
returns-in-Err-clause-told g c = tt

-- a trim that is made

pub invariant_of-self-2 : goal.invariant_of-self-2
invariant_of-self-2 g c =
    kept_trim _ _ _ c.self.inside.shard c.trim_in_place.new.self c.self.inside.book c.trim_in_place.result c.trim_in_place.ensures.kept c.trim_in_place.ensures.err c.trim_in_place.ensures.state c.self.invariant

pub returns-clause-kept : goal.returns-clause-kept
returns-clause-kept g c = c.in-Ok.ensures.kept ∙ ap after_trim c.self.view_is

pub returns-clause-mark : goal.returns-clause-mark
returns-clause-mark g c = c.made-mark.ensures.made ∙ ap (λ (s : State). s.made) c.self.view_is

pub returns-clause-err : goal.returns-clause-err
returns-clause-err g c = tt

pub returns-clause-state : goal.returns-clause-state
returns-clause-state g c = (invariant_of-self-2 g c).state
