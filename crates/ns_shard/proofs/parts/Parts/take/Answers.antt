use Rattle.std.proofs.Common.{◌≡◌, false, IfOk, refl, sym, ap, subst, ◌∙◌}
use Rattle.ns_calls.specs.declared.call.Call.{Call}
use Rattle.ns_calls.specs.declared.call.Call.TheVariants.{JoinReply, Close}
use Rattle.ns_calls.specs.declared.call.Reply.TheVariants.{NoTicket, NoWindow}
use Rattle.ns_calls.specs.Shards.{shard_of_call}
use Rattle.ns_shard.specs.declared.event.Event.TheVariants as event
use Rattle.ns_shard.specs.State.{State, finds_open}
use Rattle.ns_shard.specs.Private.Parts.{AreTaken, state_of}
use Rattle.std.proofs.lemmas.Result.{IfOk-from_err}
use Rattle.ns_shard.proofs.Standing.{on_err, same-parts}
use Rattle.ns_shard.proofs.Endings.{answer-ending, close-ending}
use Rattle.ns_shard.proofs.PartsAfter.{same-state, ending-unopened}
use Rattle.ns_shard.proofs.parts.Parts.take.Goals as goal

pub returns-in_ok-room-in-None-clause-taken : goal.returns-in_ok-room-in-None-clause-taken
returns-in_ok-room-in-None-clause-taken c =
    let p = c.answer.new.self in
    let are = c.in-None.ensures.none in
    let room = c.in_ok-room-in-None.ensures in
    let k : Call = JoinReply c.in-JoinReply.ticket c.in-JoinReply.outcome in
    let own : shard_of_call k ≡ p.index = ap shard_of_call (sym c.in-JoinReply.is) ∙ (c.requires.own ∙ ap (λ (s : State). s.index) (sym c.in-None.ensures.state)) in
    let closed : finds_open (state_of p) k ≡ false = ap (λ (s : State). finds_open s k) c.in-None.ensures.state ∙ sym c.in-None.ensures.open in
    subst (λ (x : Call). AreTaken (record p { journal = c.room.new.self }) x (event.Quiet NoTicket)) (sym c.in-JoinReply.is)
    (ending-unopened p are (answer-ending p are c.in-JoinReply.ticket c.in-JoinReply.outcome refl) c.room.new.self (same-state p c.room.new.self room.made room.entries) room.reserved room.ok own closed)

pub returns-in_ok-room-in-None-close-clause-taken : goal.returns-in_ok-room-in-None-close-clause-taken
returns-in_ok-room-in-None-close-clause-taken c =
    let p = c.close.new.self in
    let are = c.in-None-close.ensures.none in
    let room = c.in_ok-room-in-None-close.ensures in
    let k : Call = Close c.in-Close.window in
    let own : shard_of_call k ≡ p.index = ap shard_of_call (sym c.in-Close.is) ∙ (c.requires.own ∙ ap (λ (s : State). s.index) (sym c.in-None-close.ensures.state)) in
    let closed : finds_open (state_of p) k ≡ false = ap (λ (s : State). finds_open s k) c.in-None-close.ensures.state ∙ sym c.in-None-close.ensures.open in
    subst (λ (x : Call). AreTaken (record p { journal = c.room-in-None-close.new.self }) x (event.Quiet NoWindow)) (sym c.in-Close.is)
    (ending-unopened p are (close-ending p are c.in-Close.window refl refl) c.room-in-None-close.new.self (same-state p c.room-in-None-close.new.self room.made room.entries) room.reserved room.ok own closed)

pub uplink-requires : goal.uplink-requires
uplink-requires c = record { own = ap shard_of_call (sym c.in-Uplink.is) ∙ c.requires.own; agree = c.requires.agree }

pub returns-in-Uplink : goal.returns-in-Uplink
returns-in-Uplink c = record {
  taken = subst (λ (k : Call). IfOk c.uplink.result (AreTaken c.uplink.new.self k)) (sym c.in-Uplink.is) c.uplink.ensures.taken;
  state = c.uplink.ensures.state;
  «open» = on_err c.uplink.result _ (ap (λ (k : Call). finds_open (state_of c.args.self.now) k) c.in-Uplink.is);
  err = c.uplink.ensures.err;
}

pub join-requires : goal.join-requires
join-requires c = record { own = ap shard_of_call (sym c.in-Join.is) ∙ c.requires.own; agree = c.requires.agree }

pub returns-in-Join : goal.returns-in-Join
returns-in-Join c = record {
  taken = subst (λ (k : Call). IfOk c.join.result (AreTaken c.join.new.self k)) (sym c.in-Join.is) c.join.ensures.taken;
  state = c.join.ensures.state;
  «open» = on_err c.join.result _ (ap (λ (k : Call). finds_open (state_of c.args.self.now) k) c.in-Join.is);
  err = c.join.ensures.err;
}

pub returns-in-Some : goal.returns-in-Some
returns-in-Some c = record {
  taken = subst (λ (k : Call). AreTaken c.answer.new.self k c.in-Some.event) (sym c.in-JoinReply.is) c.in-Some.ensures.taken;
  state = c.answer.ensures.state;
  «open» = tt;
  err = tt;
}

pub returns-in_err-room-in-None : goal.returns-in_err-room-in-None
returns-in_err-room-in-None c =
    let p = c.answer.new.self in
    let r = c.from_residual.result in
    let told = c.room.ensures in
    record {
      taken = IfOk-from_err r _ c.from_residual.ensures.0;
      state = same-state p c.room.new.self told.made told.entries ∙ c.answer.ensures.state;
      «open» = on_err r _ (ap (λ (k : Call). finds_open (state_of c.args.self.now) k) c.in-JoinReply.is ∙ sym c.in-None.ensures.open);
      err = on_err r _ (same-parts p c.room.new.self c.in-None.ensures.none told.made told.entries told.reserved);
    }

pub returns-in_ok-room-in-None-clause-state : goal.returns-in_ok-room-in-None-clause-state
returns-in_ok-room-in-None-clause-state c = same-state c.answer.new.self c.room.new.self c.room.ensures.made c.room.ensures.entries ∙ c.answer.ensures.state

pub returns-in-Some-close : goal.returns-in-Some-close
returns-in-Some-close c = record {
  taken = subst (λ (k : Call). AreTaken c.close.new.self k c.in-Some-close.event) (sym c.in-Close.is) c.in-Some-close.ensures.taken;
  state = c.close.ensures.state;
  «open» = tt;
  err = tt;
}

pub returns-in_err-room-in-None-close : goal.returns-in_err-room-in-None-close
returns-in_err-room-in-None-close c =
    let p = c.close.new.self in
    let r = c.from_residual-in_err-room-in-None-close.result in
    let told = c.room-in-None-close.ensures in
    record {
      taken = IfOk-from_err r _ c.from_residual-in_err-room-in-None-close.ensures.0;
      state = same-state p c.room-in-None-close.new.self told.made told.entries ∙ c.close.ensures.state;
      «open» = on_err r _ (ap (λ (k : Call). finds_open (state_of c.args.self.now) k) c.in-Close.is ∙ sym c.in-None-close.ensures.open);
      err = on_err r _ (same-parts p c.room-in-None-close.new.self c.in-None-close.ensures.none told.made told.entries told.reserved);
    }

pub returns-in_ok-room-in-None-close-clause-state : goal.returns-in_ok-room-in-None-close-clause-state
returns-in_ok-room-in-None-close-clause-state c = same-state c.close.new.self c.room-in-None-close.new.self c.room-in-None-close.ensures.made c.room-in-None-close.ensures.entries ∙ c.close.ensures.state
