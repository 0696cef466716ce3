use Rattle.std.proofs.Common.{refl, ap, sym, ◌∙◌, subst, rules, arith}
use Rattle.ns_shard.specs.State.{State, after_call, finds_open}
use Rattle.ns_server.specs.Kept.{IsStateOf, IsKept}
use Rattle.ns_server.proofs.Answered.{has_history, answers_from}
use Rattle.ns_server.proofs.Begun.{kept_call}
use Rattle.ns_server.proofs.kept.Kept.step_into.Goals as goal

-- a refused call

pub invariant_of-self : goal.invariant_of-self
invariant_of-self g c = subst (λ (s : State). IsKept g.B.Naming.roster (g.B.Naming.begun g.row.K) g.row.K s c.self.inside.book) (sym c.in-Err.ensures.err.0) c.self.invariant

pub returns-in-Err-clause-entry : goal.returns-in-Err-clause-entry
returns-in-Err-clause-entry g c = tt

pub returns-in-Err-clause-receipt : goal.returns-in-Err-clause-receipt
returns-in-Err-clause-receipt g c = tt

pub returns-in-Err-clause-counted : goal.returns-in-Err-clause-counted
returns-in-Err-clause-counted g c = tt

pub returns-in-Err-clause-open : goal.returns-in-Err-clause-open
returns-in-Err-clause-open g c = λ is. c.in-Err.ensures.open (ap (λ (s : State). finds_open s c.args.call.now) c.self.view_is ∙ is)

pub returns-in-Err-clause-state : goal.returns-in-Err-clause-state
returns-in-Err-clause-state g c = subst (IsStateOf g.B.Naming.roster g.row.K) (sym c.in-Err.ensures.err.0) c.self.invariant.state

pub returns-in-Err-clause-behind : goal.returns-in-Err-clause-behind
returns-in-Err-clause-behind g c = tt

pub returns-in-Err-clause-answered : goal.returns-in-Err-clause-answered
returns-in-Err-clause-answered g c = tt

pub returns-in-Err-clause-begun : goal.returns-in-Err-clause-begun
returns-in-Err-clause-begun g c = tt

-- a call that is made

pub add_one-requires : goal.add_one-requires
add_one-requires g c = omega (arith, c.pass.invariant.0)

pub invariant_of-self-2 : goal.invariant_of-self-2
invariant_of-self-2 g c =
    kept_call _ _ _ c.self.inside.shard c.step_shard.new.shard c.args.call.now c.self.inside.book c.add_one.new.self c.requires c.in-Ok.ensures.entry c.in-Ok.ensures.state
    c.add_one.ensures.shard c.add_one.ensures.total c.self.invariant

pub returns-clause-entry : goal.returns-clause-entry
returns-clause-entry g c = c.in-Ok.ensures.entry ∙ ap (λ (s : State). after_call s c.args.call.now) c.self.view_is

pub returns-clause-err : goal.returns-clause-err
returns-clause-err g c = tt

pub returns-clause-open : goal.returns-clause-open
returns-clause-open g c = λ is. refl

pub returns-clause-state : goal.returns-clause-state
returns-clause-state g c = (invariant_of-self-2 g c).state

pub returns-clause-answered : goal.returns-clause-answered
returns-clause-answered g c = has_history _ _ c.self.inside.shard c.args.call.now c.step_shard.new.receipt (search rules) c.self.invariant.state

pub returns-clause-begun : goal.returns-clause-begun
returns-clause-begun g c = answers_from _ _ _ c.self.inside.shard c.args.call.now c.step_shard.new.receipt (search rules) c.self.invariant.state c.self.invariant.began
