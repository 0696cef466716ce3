use Rattle.std.proofs.Common.{ap, ◌∙◌}
use Rattle.ns_roster.specs.Network.{Network}
use Rattle.ns_calls.specs.declared.answer.Answer.{Answer}
use Rattle.ns_shard.specs.Private.Sending.{downlink_of}
use Rattle.ns_shard.proofs.PartsAfter.{pushed-state, pushed-parts}
use Rattle.ns_shard.proofs.parts.Parts.entered.Goals as goal

pub returns : goal.returns
returns c =
    let call = c.args.call.now in
    let p = c.args.self.now in
    let event = c.args.event in
    let told = c.requires.answer in
    let after = pushed-state p call event c.push.new.journal c.requires c.hand_out-made.result c.hand_out-made.ensures.reply c.push.ensures.made c.push.ensures.entries in
    record {
      reply = c.hand_out-made.ensures.reply ∙ ap (λ (a : Answer). a.reply) told;
      uplink = c.hand_out-made.ensures.uplink ∙ ap (λ (a : Answer). a.uplink) told;
      downlink = c.hand_out-made.ensures.downlink ∙ (ap (λ (n : Network). downlink_of n event) c.deref.ensures ∙ ap (λ (a : Answer). a.downlink) told);
      state = after;
      agree = pushed-parts p call event c.push.new.journal c.requires c.room-room.result c.room-room.ensures after c.push.ensures.reserved;
    }
