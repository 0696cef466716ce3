use Rattle.std.proofs.Common.{Option, ap, ◌∙◌}
use Rattle.std.specs.Option.{is_some}
use Rattle.ns_shard.specs.declared.event.Ended.{Ended}
use Rattle.ns_shard.proofs.Endings.{answer-ending}
use Rattle.ns_shard.proofs.PartsAfter.{ending-open, ending-taken, ending-none}
use Rattle.ns_shard.proofs.parts.Parts.answer.Goals as goal

pub returns-in_err-answer-clause-open : goal.returns-in_err-answer-clause-open
returns-in_err-answer-clause-open c =
    let p = c.args.self.now in
    rw c.from_residual.ensures (ap (λ (o : Option Ended). is_some o) c.in_err-answer.ensures.ended ∙ ending-open p c.requires.agree (answer-ending p c.requires.agree c.args.ticket.now c.args.outcome.now c.answer.ensures.devices))

pub returns-in_err-answer-clause-none : goal.returns-in_err-answer-clause-none
returns-in_err-answer-clause-none c =
    let p = c.args.self.now in
    rw c.from_residual.ensures (ending-none p c.requires.agree (answer-ending p c.requires.agree c.args.ticket.now c.args.outcome.now c.answer.ensures.devices) c.in_err-answer.ensures.ended)

pub returns-clause-open : goal.returns-clause-open
returns-clause-open c =
    let p = c.args.self.now in
    ap (λ (o : Option Ended). is_some o) c.in_ok-answer.ensures.ended ∙ ending-open p c.requires.agree (answer-ending p c.requires.agree c.args.ticket.now c.args.outcome.now c.answer.ensures.devices)

pub returns-clause-taken : goal.returns-clause-taken
returns-clause-taken c =
    let p = c.args.self.now in
    ending-taken p c.requires.agree (answer-ending p c.requires.agree c.args.ticket.now c.args.outcome.now c.answer.ensures.devices) c.in_ok-answer.field-0 c.in_ok-answer.ensures.ended
