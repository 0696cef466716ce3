use Rattle.std.proofs.Common.{◌≡◌, ℕ, ◌+◌, List, [], ◌∷◌, ◌++◌, ap, ◌∙◌, subst, add-one, arith}
use Rattle.std.specs.Arc.{arc_value}
use Rattle.ns_roster.specs.Network.{Network}
use Rattle.ns_shard.specs.State.{State, no_entries}
use Rattle.ns_server.specs.Rows.{new_states}
use Rattle.ns_server.proofs.server.new_shards.Goals as goal

-- one more shard
one_more : (net : Network) (k : ℕ) (was now : List State) (s : State) → now ≡ was ++ s ∷ [] → was ≡ new_states net k → s ≡ no_entries net k → now ≡ new_states net (k + 1)
one_more net k was now s pushed before new =
    rw add-one (pushed ∙ (ap (λ (l : List State). l ++ s ∷ []) before ∙ ap (λ (last : State). new_states net k ++ last ∷ []) new))

pub loop-index-init : goal.loop-index-init
loop-index-init c = c.new-shards.ensures.items

pub new-requires : goal.new-requires
new-requires c = c.loop-index-test.true

pub loop-index-preserved : goal.loop-index-preserved
loop-index-preserved c =
    one_more _ _ _ _ _ c.in_ok-push.ensures.items c.loop-index.invariant (c.in_ok-new.ensures ∙ ap (λ (net : Network). no_entries net c.loop-index.index) c.in_ok-clone.ensures.cases)

pub returns : goal.returns
returns c =
    let ended : c.loop-index.index ≡ 16 = omega arith in
    subst (λ (k : ℕ). c.loop-index.shards.items ≡ new_states (arc_value c.args.roster.now) k) ended c.loop-index.invariant
