use Rattle.std.proofs.Common.{sym, ap, ◌∙◌}
use Rattle.ns_calls.specs.declared.answer.Answer.{Answer}
use Rattle.ns_shard.specs.State.{quiet}
use Rattle.ns_shard.proofs.PartsAfter.{pushed-state, pushed-parts}
use Rattle.ns_shard.proofs.parts.Parts.quieted.Goals as goal

pub returns : goal.returns
returns c =
    let call = c.args.call.now in
    let p = c.args.self.now in
    let event = c.args.event in
    let taken = c.requires.taken in
    let after = pushed-state p call event c.push.new.journal taken c.reply-reply.result c.reply-reply.ensures c.push.ensures.made c.push.ensures.entries in
    record {
      answer = c.quiet.ensures ∙ (ap quiet (c.reply-reply.ensures ∙ ap (λ (a : Answer). a.reply) taken.answer) ∙ sym c.requires.quiet);
      state = after;
      agree = pushed-parts p call event c.push.new.journal taken c.room-room.result c.room-room.ensures after c.push.ensures.reserved;
    }
