use Rattle.std.proofs.Common.{◌≡◌, ◌++◌, [], List, Option, flat_map, false}
use Rattle.std.specs.Arc.{arc_value}
use Rattle.ns_acts.specs.declared.step.Step.{Step}
use Rattle.ns_runs.specs.KeptSteps.{AreKeptAfter}
use Rattle.ns_runs.specs.Lines.{Gives, steps_in}
use Rattle.ns_runs.specs.Steps.{AreAfter}
use Rattle.ns_runs.proofs.LineSteps.{all_lines}
use Rattle.ns_runs.proofs.run.Shards.run_over.Given as goal

-- the shards are what the steps of the lines so far leave, and what came of these was put
abbrev pub invariant-given : goal.invariant-given
invariant-given g l =
    let net = arc_value l.fn.roster in
    record {
      sound : g.L.StepSource.has_failed l.from ≡ false;
      so_far : (done : List (Option Step))
          × Gives (g.L.StepSource.left l.initial.lines l.initial.from) (g.L.StepSource.left l.lines l.from) done
          × AreKeptAfter net (steps_in done) l.shards
          × (l.fn.trims ≡ false → AreAfter net (steps_in done) l.shards)
          × (g.A.Answers.pieces l.answers ≡ g.A.Answers.pieces l.initial.answers)
          × (g.A.Answers.held l.answers ≡ g.A.Answers.held l.initial.answers ++ flat_map (g.A.Answers.pieces l.initial.answers) (all_lines net [] done));
    }
