use Rattle.std.proofs.Common.{rules, ◌≡◌, ◌++◌, [], ◌∷◌, Option, flat_map, option_map, true, false, refl, sym, ap, ◌∙◌, subst, append-nil}
use Rattle.std.specs.Arc.{arc_value}
use Rattle.ns_acts.specs.declared.step.Step.{Step}
use Rattle.ns_runs.specs.KeptSteps.{AreKeptAfter}
use Rattle.ns_runs.specs.Lines.{lent, steps_in, HasAll, Advances}
use Rattle.ns_runs.specs.Steps.{AreAfter}
use Rattle.ns_runs.proofs.LineSteps.{all_lines, all_lines-more, steps_in-more, pieces-more, gives-none, gives-more, gives-all}
use Rattle.ns_runs.proofs.Whole.{has-run}
use Rattle.ns_runs.proofs.run.Shards.run_over.Goals as goal
use Rattle.ns_runs.proofs.run.Shards.run_over.Goals.{in-Some, in_default}

pub given-init : goal.given-init
given-init g c = record {
  sound = c.requires;
  so_far = ([], gives-none (g.L.StepSource.left c.args.lines.now c.args.from.now), c.in_ok-shards.ensures.kept, (λ no_trims. c.in_ok-shards.ensures.shards), refl, sym (append-nil (g.A.Answers.held c.args.answers.now)));
}

pub advance-requires : goal.advance-requires
advance-requires g c = c.given.invariant.sound

pub run_line-requires : goal.run_line-requires
run_line-requires g c =
    let (done, gives, kept, plain, same, held) = c.given.invariant.so_far in
    (arc_value c.args.roster, steps_in done, kept)

pub given-preserved : goal.given-preserved
given-preserved g c =
    let (done, gives, kept, plain, same, held) = c.given.invariant.so_far in
    let net = arc_value c.args.roster in
    let line : Option Step = option_map lent c.in_ok-step.step in
    let more : c.in_ok-advance.field-0 ≡ true = search rules in
    let advanced : Advances (g.L.StepSource.left c.given.lines c.given.from) (g.L.StepSource.left c.advance.new.self c.advance.new.from) true line =
    subst (λ l. Advances (g.L.StepSource.left c.given.lines c.given.from) (g.L.StepSource.left c.advance.new.self c.advance.new.from) true l) (sym c.in_ok-step.ensures)
    (subst (λ m. Advances (g.L.StepSource.left c.given.lines c.given.from) (g.L.StepSource.left c.advance.new.self c.advance.new.from) m (g.L.StepSource.here c.advance.new.self)) more c.in_ok-advance.ensures.lines) in
    let shards_are : c.match-branch-6.shards ≡ c.run_line.new.self = elim c.match-branch-6.branch [ in-Some w ↦ w.shards-is ∙ w.reuse.ensures | in_default w ↦ w.shards-is ] in
    let first = g.A.Answers.held c.args.answers.now in
    let made = g.A.Answers.pieces c.args.answers.now in
    record {
      sound = c.in_ok-advance.ensures.sound;
      so_far = (
        done ++ line ∷ [],
        gives-more _ _ _ done line gives advanced,
        subst (AreKeptAfter net (steps_in (done ++ line ∷ []))) (sym shards_are) (subst (λ ss. AreKeptAfter net ss c.run_line.new.self) (sym (steps_in-more done line)) (c.in_ok-taken.ensures.kept net (steps_in done) kept)),
        (λ no_trims. subst (AreAfter net (steps_in (done ++ line ∷ []))) (sym shards_are) (subst (λ ss. AreAfter net ss c.run_line.new.self) (sym (steps_in-more done line)) (c.in_ok-taken.ensures.shards no_trims net (steps_in done) (plain no_trims)))),
        c.in_ok-done.ensures.same ∙ same,
        pieces-more made (g.A.Answers.pieces c.given.answers) first (g.A.Answers.held c.given.answers) (g.A.Answers.held c.put.new.self) (all_lines net [] done) c.in_ok-taken.taken held same c.in_ok-done.ensures.held
            ∙ ap (λ ts. first ++ flat_map made ts) (ap (λ t. all_lines net [] done ++ t ∷ []) (c.in_ok-taken.ensures.taken net (steps_in done) kept) ∙ sym (all_lines-more net [] done line)),
      );
    }

pub returns-then-not-branch-clause-run : goal.returns-then-not-branch-clause-run
returns-then-not-branch-clause-run g c =
    let (done, gives, kept, plain, same, held) = c.given.invariant.so_far in
    let net = arc_value c.args.roster in
    let none : c.in_ok-advance.field-0 ≡ false = search rules in
    let ended : HasAll (g.L.StepSource.left c.given.lines c.given.from) [] =
    subst (λ m. Advances (g.L.StepSource.left c.given.lines c.given.from) (g.L.StepSource.left c.advance.new.self c.advance.new.from) m (g.L.StepSource.here c.advance.new.self)) none c.in_ok-advance.ensures.lines in
    (done, all_lines net [] done, gives-all _ _ done gives ended, has-run net c.args.trims done c.given.shards kept plain, held)
