use Rattle.std.proofs.Common.{◌≡◌, ◌++◌, [], true, cond, flat_map, rules, ap, ◌∙◌, subst}
use Rattle.std.specs.Arc.{arc_value}
use Rattle.ns_roster.specs.Closing.{network_text, with_greatest}
use Rattle.ns_runs.specs.NextRun.{greatest_among}
use Rattle.ns_runs.specs.Whole.{HasRun}
use Rattle.ns_steps.specs.StepLines.{ended}
use Rattle.ns_replay.specs.Output.{text_of}
use Rattle.ns_replay.proofs.ClosingLemmas.{replayed}
use Rattle.ns_replay.proofs.run.answers_of.Goals as goal

pub returns-clause-lines : goal.returns-clause-lines
returns-clause-lines g c =
    let net = arc_value c.args.roster in
    let (given, told, all, run, made) = c.in_ok-shards.ensures.run in
    let has : HasRun net true given told c.in_ok-shards.shards = subst (λ n. HasRun n true given told c.in_ok-shards.shards) c.in_ok-clone.ensures.cases run in
    let put : c.put_closing.new.text.items ≡ c.run_over.new.answers.text.items ++ cond c.args.closing (ended (network_text (with_greatest net (greatest_among c.in_ok-shards.shards)))) [] = search rules in
    replayed net c.args.uplinks c.args.closing c.in_ok-lines.lines (g.R.Source.left c.args.reader.now) given told c.in_ok-shards.shards _ c.run_over.new.answers.text.items c.put_closing.new.text.items
    c.in_ok-lines.ensures.0 c.in_ok-lines.ensures.1 c.in_ok-lines.ensures.2 all has c.new-answers.ensures.text
    (made ∙ ap (λ u. c.new-answers.result.text.items ++ flat_map (text_of u) told) c.new-answers.ensures.uplinks) put
