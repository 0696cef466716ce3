use Rattle.std.proofs.Common.{◌<◌, ℕ, length, Some, rules, refl, sym, ap, ◌∙◌}
use Rattle.std.specs.Prelude.{slice_get}
use Rattle.std.proofs.lemmas.Option.{slice_get-get_or}
use Rattle.ns_shard.specs.State.{State, answer_in}
use Rattle.ns_resume.proofs.run.Running.answer.Goals as goal

pub returns-clause-answered : goal.returns-clause-answered
returns-clause-answered c =
    let before : State = c.index_mut-shard.result.now in
    let place : ℕ = c.from-place.result in
    let within : place < length c.args.self.now.shards.items = search rules in (
      answer_in before c.args.call.now,
      record {
        before = before;
        at = ap (slice_get c.args.self.now.shards.items) (search rules)
            ∙ (slice_get-get_or c.args.self.now.shards.items place before within ∙ ap Some (sym c.index_mut-shard.ensures.value));
        answered = refl;
        matters = search rules;
        after = c.trim_if_due.new.shard;
        trimmed = search rules;
        shards = search rules;
      },
      search rules,
    )
