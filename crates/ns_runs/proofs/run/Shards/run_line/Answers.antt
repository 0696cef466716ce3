use Rattle.std.proofs.Common.{◌++◌, option_map, sym, subst}
use Rattle.std.specs.Option.{option_to_list}
use Rattle.ns_runs.specs.KeptSteps.{AreKeptAfter}
use Rattle.ns_runs.specs.Lines.{lent}
use Rattle.ns_runs.specs.Steps.{AreAfter}
use Rattle.ns_runs.proofs.run.Shards.run_line.Goals as goal

pub returns-in_ok-step_and_trim-in-Some-clause-kept : goal.returns-in_ok-step_and_trim-in-Some-clause-kept
returns-in_ok-step_and_trim-in-Some-clause-kept c net before after =
    subst (λ step. AreKeptAfter net (before ++ option_to_list (option_map lent step)) c.step_and_trim.new.self) (sym c.in-Some.is) (c.in_ok-step_and_trim-in-Some.ensures.kept net before after)

pub returns-in_ok-run_act-in-Some-2-clause-kept : goal.returns-in_ok-run_act-in-Some-2-clause-kept
returns-in_ok-run_act-in-Some-2-clause-kept c net before after =
    subst (λ step. AreKeptAfter net (before ++ option_to_list (option_map lent step)) c.run_act.new.self) (sym c.in-Some-2.is) (c.in_ok-run_act-in-Some-2.ensures.kept net before after)

pub returns-in_ok-run_act-in-Some-2-clause-shards : goal.returns-in_ok-run_act-in-Some-2-clause-shards
returns-in_ok-run_act-in-Some-2-clause-shards c no_trims net before after =
    subst (λ step. AreAfter net (before ++ option_to_list (option_map lent step)) c.run_act.new.self) (sym c.in-Some-2.is) (c.in_ok-run_act-in-Some-2.ensures.shards net before after)
