use Rattle.std.proofs.Common.{◌++◌, ◌∷◌, [], ◌∙◌, sym, subst}
use Rattle.std.proofs.lemmas.Result.{IfOk-weaker, on_ok_weaker, on_err_weaker}
use Rattle.ns_runs.specs.KeptSteps.{AreKeptAfter, AreInPlace}
use Rattle.ns_acts.specs.Lent.{step_lent}
use Rattle.ns_runs.specs.Steps.{AreAfter}
use Rattle.ns_runs.proofs.KeptSteps.{in_place, next-kept, step-taken}
use Rattle.ns_runs.proofs.RunSteps.{next-after}
use Rattle.ns_runs.proofs.StepEnds.{ends-taken, ends-shards, ends-same}
use Rattle.ns_runs.proofs.run.Shards.run_act.Goals as goal

pub returns-clause-taken : goal.returns-clause-taken
returns-clause-taken c = IfOk-weaker c.run_act.result _ _ (λ t told net before are. step-taken net before (step_lent c.args.worker c.args.act.now) _ t (subst (AreKeptAfter net before) (sym c.self.view_is) are) told) (ends-taken _ _ c.run_act.result _ c.run_act.ensures)

pub returns-clause-shards : goal.returns-clause-shards
returns-clause-shards c = on_ok_weaker c.run_act.result (λ changed net before after. next-after net before (step_lent c.args.worker c.args.act.now) _ _ (subst (AreAfter net before) (sym c.self.view_is) after) changed) (ends-shards _ _ c.run_act.result _ c.run_act.ensures)

pub returns-clause-kept : goal.returns-clause-kept
returns-clause-kept c = on_ok_weaker c.run_act.result (λ changed net before are. next-kept net before (step_lent c.args.worker c.args.act.now) _ _ (subst (AreKeptAfter net before) (sym c.self.view_is) are) changed) (ends-shards _ _ c.run_act.result _ c.run_act.ensures)

pub returns-clause-reached : goal.returns-clause-reached
returns-clause-reached c =
    let (net, before, are) = c.requires in
    on_ok_weaker c.run_act.result (λ changed. (net, before ++ (step_lent c.args.worker c.args.act.now) ∷ [], next-kept net before (step_lent c.args.worker c.args.act.now) _ _ (subst (AreKeptAfter net before) (sym c.self.view_is) are) changed)) (ends-shards _ _ c.run_act.result _ c.run_act.ensures)

pub returns-clause-err : goal.returns-clause-err
returns-clause-err c = on_err_weaker c.run_act.result (λ same. same ∙ c.self.view_is) (ends-same _ _ c.run_act.result _ c.run_act.ensures)

pub run_act-requires-clause-in_place : goal.run_act-requires-clause-in_place
run_act-requires-clause-in_place c =
    let (net, before, are) = c.requires in
    subst AreInPlace (sym c.self.view_is) (in_place net before _ are)
