use Rattle.std.proofs.Common.{ap, ◌∙◌}
use Rattle.ns_roster.specs.Network.{Network}
use Rattle.ns_shard.specs.Private.Sending.{answer_of}
use Rattle.ns_shard.proofs.PartsAfter.{pushed-state, pushed-parts}
use Rattle.ns_shard.proofs.parts.Parts.boxed.Goals as goal

pub returns : goal.returns
returns c =
    let call = c.args.call.now in
    let p = c.args.self.now in
    let event = c.args.event in
    let after = pushed-state p call event c.push.new.journal c.requires c.reply-reply.result c.reply-reply.ensures c.push.ensures.made c.push.ensures.entries in
    record {
      answer = c.of-answer.ensures ∙ (ap (λ (n : Network). answer_of n event) c.deref.ensures ∙ c.requires.answer);
      state = after;
      agree = pushed-parts p call event c.push.new.journal c.requires c.room-room.result c.room-room.ensures after c.push.ensures.reserved;
    }
