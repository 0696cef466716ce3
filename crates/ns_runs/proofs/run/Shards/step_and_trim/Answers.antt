use Rattle.std.proofs.Common.{◌++◌, ◌∷◌, [], sym, subst}
use Rattle.ns_acts.specs.Lent.{step_lent}
use Rattle.ns_runs.specs.KeptSteps.{AreKeptAfter}
use Rattle.ns_runs.proofs.run.Shards.step_and_trim.Goals as goal
use Rattle.ns_runs.proofs.run.Shards.step_and_trim.Goals.{in-Made, in_default}

pub returns-clause-kept : goal.returns-clause-kept
returns-clause-kept c = λ net before are.
    let stepped = c.in_ok-taken.ensures.kept net before are in
    elim c.match-taken.branch [
      | in-Made w ↦ subst (AreKeptAfter net (before ++ step_lent c.args.worker c.args.act.now ∷ [])) (sym w.self-is) (w.trim_one.ensures net (before ++ step_lent c.args.worker c.args.act.now ∷ []) stepped)
      | in_default w ↦ subst (AreKeptAfter net (before ++ step_lent c.args.worker c.args.act.now ∷ [])) (sym w.self-is) stepped
    ]

pub returns-clause-reached : goal.returns-clause-reached
returns-clause-reached c =
    let (net, before, are) = c.requires in
    (net, before ++ step_lent c.args.worker c.args.act.now ∷ [], returns-clause-kept c net before are)
