use Rattle.std.proofs.Common.{◌≡◌, subst}
use Rattle.std.specs.Prelude.{IfOk}
use Rattle.ns_shard.specs.State.{State, after_trim}
use Rattle.ns_shard.specs.Rounds.{round_calls, after_calls}
use Rattle.ns_shard.specs.Private.Parts.{state_of}
use Rattle.ns_shard.proofs.Standing.{is-state}
use Rattle.ns_shard.proofs.shard.Shard.jump.Goals as goal

pub returns : goal.returns
returns c = record {
  rounds =
      subst (λ (s : State). IfOk c.jump.result (λ w. state_of c.jump.new.self ≡ after_trim (after_calls s (round_calls c.args.rounds c.args.frame.now c.args.heard.now w))))
      c.self.view_is c.jump.ensures.state;
  state = is-state c.jump.new.self c.jump.ensures.agree;
}
