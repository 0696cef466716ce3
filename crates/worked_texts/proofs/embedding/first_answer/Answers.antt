use Rattle.std.proofs.Common.{[], ap, ◌∙◌}
use Rattle.std.specs.Arc.{arc_value}
use Rattle.ns_calls.specs.Out.{answer}
use Rattle.ns_shard.specs.State.{answer_in}
use Rattle.worked_texts.proofs.embedding.first_answer.Goals as goal

pub returns : goal.returns
returns c =
    c.in_ok-answer.ensures.answer
    ∙ ap (λ s. answer_in s c.args.call) c.in_ok-shard.ensures
    ∙ ap (λ h. answer (arc_value c.args.roster) h c.args.call) (c.untrimmed_histories_read_as_they_are.ensures [])
