use Rattle.std.proofs.Common.{◌≡◌, IfOk, OnOk, OnErr, subst}
use Rattle.ns_shard.specs.State.{State, after_call, answer_in}
use Rattle.ns_shard.specs.Private.Parts.{state_of}
use Rattle.ns_shard.proofs.Standing.{is-state}
use Rattle.ns_shard.proofs.shard.Shard.apply_boxed.Goals as goal

pub returns : goal.returns
returns c =
    let r = c.apply_boxed.result in
    let call = c.args.call.now in
    let view = c.self.view_is in
    let told = c.apply_boxed.ensures in
    record {
      entry = subst (λ (s : State). OnOk r (state_of c.apply_boxed.new.self ≡ after_call s call)) view told.state;
      answer = subst (λ (s : State). IfOk r (λ a. a ≡ answer_in s call)) view told.answer;
      err = subst (λ (s : State). OnErr r (state_of c.apply_boxed.new.self ≡ s)) view told.err;
      state = is-state c.apply_boxed.new.self told.agree;
    }
