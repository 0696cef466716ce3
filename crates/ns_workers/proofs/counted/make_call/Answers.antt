use Rattle.std.proofs.Common.{sym, subst}
use Rattle.ns_outside.specs.Answered.{RisesAt}
use Rattle.ns_workers.proofs.Doings.{counted_answer}
use Rattle.ns_workers.proofs.counted.make_call.Goals as goal

pub returns-clause-answered : goal.returns-clause-answered
returns-clause-answered g c =
    counted_answer g.S.Calls.roster c.call_into.new.receipt c.args.call.now c.in_ok-call_into.ensures.call c.in_ok-call_into.ensures.answered

pub returns-clause-counted : goal.returns-clause-counted
returns-clause-counted g c =
    subst (λ k. RisesAt k (g.S.Calls.made c.args.pass.now) (g.S.Calls.made c.call_into.new.pass)) (sym c.in_ok-call_into.ensures.call.0) c.in_ok-call_into.ensures.counted
