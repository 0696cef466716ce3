use Rattle.std.proofs.Common.{◌≡◌, ◌++◌, ◌∷◌, [], List, IfOk, OnOk, subst}
use Rattle.ns_roster.specs.Network.{Network}
use Rattle.ns_acts.specs.declared.step.Act.{Act}
use Rattle.ns_acts.specs.declared.step.Step.{Step}
use Rattle.ns_runs.specs.KeptSteps.{AreKeptAfter}
use Rattle.ns_runs.specs.Steps.{step_taken, AreAfter}
use Rattle.ns_runs.proofs.run.Shards.step.Goals as goal

pub returns-clause-taken : goal.returns-clause-taken
returns-clause-taken c =
    subst (λ (a : Act). IfOk c.run_act.result (λ t. (net : Network) (before : List Step) → AreKeptAfter net before c.args.self.now → t ≡ step_taken net before (record { worker = c.args.step.now.worker; act = a }))) c.lend.ensures c.run_act.ensures.taken

pub returns-clause-shards : goal.returns-clause-shards
returns-clause-shards c =
    subst (λ (a : Act). OnOk c.run_act.result ((net : Network) (before : List Step) → AreAfter net before c.args.self.now → AreAfter net (before ++ (record { worker = c.args.step.now.worker; act = a }) ∷ []) c.run_act.new.self)) c.lend.ensures c.run_act.ensures.shards

pub returns-clause-kept : goal.returns-clause-kept
returns-clause-kept c =
    subst (λ (a : Act). OnOk c.run_act.result ((net : Network) (before : List Step) → AreKeptAfter net before c.args.self.now → AreKeptAfter net (before ++ (record { worker = c.args.step.now.worker; act = a }) ∷ []) c.run_act.new.self)) c.lend.ensures c.run_act.ensures.kept
