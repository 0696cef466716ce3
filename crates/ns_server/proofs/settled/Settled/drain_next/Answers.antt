use Rattle.std.proofs.Common.{ap, sym, ◌∙◌, subst, length-set}
use Rattle.std.proofs.lemmas.Option.{get_or_from_slice_get, slice_get-get_or}
use Rattle.ns_calls.specs.declared.call.Call.TheVariants.{Close}
use Rattle.ns_shard.specs.State.{State, finds_open}
use Rattle.ns_server.specs.Settled.{AreStates}
use Rattle.ns_server.specs.Drain.{EachIsClosed}
use Rattle.ns_server.proofs.Closing.{each_closed}
use Rattle.ns_server.proofs.Draining.{states_set, state_after, drains}
use Rattle.ns_server.proofs.settled.Settled.drain_next.Goals as goal

pub returns-in_default-clause-closed : goal.returns-in_default-clause-closed
returns-in_default-clause-closed g c =
    subst EachIsClosed c.self.view_is (each_closed _ c.self.inside.shards (c.windows_open_once.ensures g.B.Naming.roster) (c.drained_histories_closed_all.ensures g.B.Naming.roster) c.self.invariant.2 c.in_default.ensures.none)

pub returns-in_default-clause-states : goal.returns-in_default-clause-states
returns-in_default-clause-states g c = subst (AreStates _) c.self.view_is c.self.invariant.2

pub close-requires-clause-own : goal.close-requires-clause-own
close-requires-clause-own g c =
    let first = c.in-Some.ensures.some.1 in
    first.own ∙ ap (λ (s : State). s.index) (sym (get_or_from_slice_get c.self.inside.shards c.in-Some.i first.state c.index-self-i.result first.shard))

pub close-requires-clause-open : goal.close-requires-clause-open
close-requires-clause-open g c =
    let first = c.in-Some.ensures.some.1 in
    ap (λ (s : State). finds_open s (Close c.in-Some.window)) (get_or_from_slice_get c.self.inside.shards c.in-Some.i first.state c.index-self-i.result first.shard) ∙ first.is_open

pub invariant_of-self : goal.invariant_of-self
invariant_of-self g c =
    let shards = c.self.inside.shards in
    let found = slice_get-get_or shards c.in-Some.i c.index-self-i.result c.in-Some.ensures.some.0 in
    let done = c.close.ensures in
    let is = state_after _ c.in-Some.i c.in-Some.window _ _ (c.self.invariant.2 c.in-Some.i _ found) done.done done.state in
    (c.self.invariant.0, length-set shards c.in-Some.i _ ∙ c.self.invariant.1, states_set _ shards c.in-Some.i _ c.self.invariant.2 is)

pub returns-clause-states : goal.returns-clause-states
returns-clause-states g c =
    let shards = c.self.inside.shards in
    let found = slice_get-get_or shards c.in-Some.i c.index-self-i.result c.in-Some.ensures.some.0 in
    let done = c.close.ensures in
    states_set _ shards c.in-Some.i _ c.self.invariant.2 (state_after _ c.in-Some.i c.in-Some.window _ _ (c.self.invariant.2 c.in-Some.i _ found) done.done done.state)

pub returns-clause-some : goal.returns-clause-some
returns-clause-some g c =
    let shards = c.self.inside.shards in
    let found = slice_get-get_or shards c.in-Some.i c.index-self-i.result c.in-Some.ensures.some.0 in
    let done = c.close.ensures in
    drains _ _ shards c.in-Some.i c.in-Some.window _ _ c.close.result c.self.view_is c.self.invariant.2 found c.in-Some.ensures.some.1 done.done done.receipt
