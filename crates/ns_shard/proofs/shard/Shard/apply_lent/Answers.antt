use Rattle.std.proofs.Common.{◌≡◌, false, OnOk, OnErr, subst}
use Rattle.ns_shard.specs.State.{State, after_call, answer_in, finds_open}
use Rattle.ns_shard.specs.Private.Parts.{state_of}
use Rattle.ns_shard.proofs.Standing.{is-state, ok-where_open}
use Rattle.ns_shard.proofs.shard.Shard.apply_lent.Goals as goal

pub returns : goal.returns
returns c =
    let r = c.apply.result in
    let call = c.args.call.now in
    let view = c.self.view_is in
    record {
      entry = subst (λ (s : State). OnOk r (state_of c.apply.new.self ≡ after_call s call)) view c.apply.ensures.state;
      reply = subst (λ (s : State). OnOk r (c.apply.new.reply ≡ (answer_in s call).reply)) view c.apply.ensures.reply;
      uplink = subst (λ (s : State). OnOk r (c.apply.new.uplink ≡ (answer_in s call).uplink)) view c.apply.ensures.uplink;
      downlink = subst (λ (s : State). OnOk r (c.apply.new.downlink ≡ (answer_in s call).downlink)) view c.apply.ensures.downlink;
      err = subst (λ (s : State). OnErr r ((state_of c.apply.new.self ≡ s) × (c.apply.new.reply ≡ c.args.reply.now) × (c.apply.new.uplink ≡ c.args.uplink.now) × (c.apply.new.downlink ≡ c.args.downlink.now))) view c.apply.ensures.err;
      «open» = ok-where_open r (finds_open c.args.self.now call) (subst (λ (s : State). OnErr r (finds_open s call ≡ false)) view c.apply.ensures.open);
      state = is-state c.apply.new.self c.apply.ensures.agree;
    }
