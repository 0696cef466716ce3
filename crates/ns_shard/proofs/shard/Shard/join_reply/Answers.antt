use Rattle.std.proofs.Common.{◌≡◌, true, false, ap, ◌∙◌}
use Rattle.ns_calls.specs.declared.call.Call.TheVariants.{JoinReply}
use Rattle.ns_shard.specs.State.{finds_open}
use Rattle.ns_shard.proofs.Standing.{is-state, none-closed, same-closed, some-open, pushed-open}
use Rattle.ns_shard.proofs.shard.Shard.join_reply.Goals as goal

pub returns-in_err-event : goal.returns-in_err-event
returns-in_err-event c =
    let s = c.args.self.now in
    let call = JoinReply c.args.ticket.now c.args.outcome in
    let closed : false ≡ finds_open s call = c.in_err-event.ensures.open ∙ ap (λ x. finds_open x call) c.self.view_is in
    record {
      answer = none-closed s call c.from_residual.result c.from_residual.ensures closed;
      entry = same-closed (c.answer.ensures.state ∙ c.self.view_is) call closed;
      state = is-state c.answer.new.self c.in_err-event.ensures.none;
    }

pub returns : goal.returns
returns c =
    let s = c.args.self.now in
    let call = JoinReply c.args.ticket.now c.args.outcome in
    let opened : true ≡ finds_open s call = c.in_ok-event.ensures.open ∙ ap (λ x. finds_open x call) c.self.view_is in
    let same = c.answer.ensures.state ∙ c.self.view_is in
    record {
      answer = some-open same call c.answered.result c.answered.ensures.answer opened;
      entry = pushed-open same call _ c.answered.ensures.state opened;
      state = is-state c.answered.new.self c.answered.ensures.agree;
    }
