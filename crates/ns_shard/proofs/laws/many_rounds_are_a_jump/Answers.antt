use Rattle.std.proofs.Common.{ℕ, List}
use Rattle.ns_types.specs.declared.identity.WindowName.{WindowName}
use Rattle.ns_types.specs.declared.heard.Heard.{Heard}
use Rattle.ns_calls.specs.declared.call.Entry.{Entry}
use Rattle.ns_shard.specs.State.{State}
use Rattle.ns_shard.proofs.RoundCalls.{jump-of}
use Rattle.ns_shard.proofs.laws.many_rounds_are_a_jump.Goals as goal

pub returns : goal.returns
returns c = λ (s : State) (h : List Entry) (n : ℕ) (frame : List ℕ) (heard : Heard) (w : WindowName) keeps told rounds acks. jump-of n s h frame heard w keeps told rounds acks
