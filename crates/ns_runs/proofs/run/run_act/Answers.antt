use Rattle.std.proofs.Common.{refl, sym, ap, subst, ◌∙◌}
use Rattle.std.specs.Result.{IsOk}
use Rattle.ns_acts.specs.declared.step.LentAct.{LentAct}
use Rattle.ns_acts.specs.Lent.{act_lent}
use Rattle.ns_acts.specs.Calls.{call_of}
use Rattle.ns_runs.specs.Private.Run.{refused_as, StepEnds}
use Rattle.ns_runs.proofs.StepEnds.{refused-ends, call-ends}
use Rattle.ns_runs.proofs.run.run_act.Goals as goal

pub run_datagram-requires : goal.run_datagram-requires
run_datagram-requires c = record { sixteen = c.requires.sixteen; in_place = c.requires.in_place }

pub returns-in_err-call-in-Answer : goal.returns-in_err-call-in-Answer
returns-in_err-call-in-Answer c =
    refused-ends c.args.shards.now.items (refused_as (call_of (act_lent c.args.act.now))) c.args.shards.now.items c.from_residual.result c.from_residual.ensures.0
    (subst (λ (a : LentAct). IsOk (refused_as (call_of (act_lent a)))) (sym c.in-Answer.is) refl) refl

pub apply-requires : goal.apply-requires
apply-requires c = record { sixteen = c.requires.sixteen; in_place = c.requires.in_place }

pub apply-requires-in-Lost : goal.apply-requires-in-Lost
apply-requires-in-Lost c = record { sixteen = c.requires.sixteen; in_place = c.requires.in_place }

pub apply-requires-in-Close : goal.apply-requires-in-Close
apply-requires-in-Close c = record { sixteen = c.requires.sixteen; in_place = c.requires.in_place }

pub returns-in-Datagram : goal.returns-in-Datagram
returns-in-Datagram c =
    subst (λ (a : LentAct). StepEnds c.args.shards.now.items (refused_as (call_of (act_lent a))) c.run_datagram.result c.run_datagram.new.shards.items) (sym c.in-Datagram.is) c.run_datagram.ensures

pub returns-in_ok-call-in-Answer : goal.returns-in_ok-call-in-Answer
returns-in_ok-call-in-Answer c =
    call-ends c.args.shards.now.items (call_of (act_lent c.args.act.now)) c.apply.result c.apply.new.shards.items
    (c.in_ok-call-in-Answer.ensures ∙ ap (λ (a : LentAct). call_of (act_lent a)) (sym c.in-Answer.is))
    c.apply.ensures

pub returns-in-Lost : goal.returns-in-Lost
returns-in-Lost c =
    subst (λ (a : LentAct). StepEnds c.args.shards.now.items (refused_as (call_of (act_lent a))) c.apply-in-Lost.result c.apply-in-Lost.new.shards.items) (sym c.in-Lost.is) c.apply-in-Lost.ensures

pub returns-in-Close : goal.returns-in-Close
returns-in-Close c =
    subst (λ (a : LentAct). StepEnds c.args.shards.now.items (refused_as (call_of (act_lent a))) c.apply-in-Close.result c.apply-in-Close.new.shards.items) (sym c.in-Close.is) c.apply-in-Close.ensures
