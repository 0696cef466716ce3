use Rattle.std.proofs.Common.{◌≡◌, ◌<◌, ℕ, List, Some, ap, sym, subst, ◌∙◌, get_or}
use Rattle.std.specs.Prelude.{length, slice_get}
use Rattle.std.proofs.lemmas.Option.{slice_get-get_or}
use Rattle.ns_types.specs.Identity.{shard_of}
use Rattle.ns_roster.specs.Network.{Network}
use Rattle.ns_shard.specs.State.{State}
use Rattle.ns_server.specs.Settled.{greatest_of}
use Rattle.ns_server.proofs.Shards.{greatest_there}
use Rattle.ns_server.proofs.settled.Settled.greatest.Goals as goal

pub returns : goal.returns
returns g c =
    let shards = c.self.inside.shards in
    let place = c.from-place.result in
    let shard : State = get_or shards place c.index-self-place.result in
    let net : Network = g.B.Naming.roster in
    let eui = c.args.eui in
    let own : place ≡ shard_of eui = c.from-place.ensures ∙ c.shard_of.ensures.is in
    let below : place < length shards = subst (λ (n : ℕ). place < n) (sym c.self.invariant.1) (subst (λ (n : ℕ). n < 16) (sym c.from-place.ensures) c.shard_of.ensures.below) in
    let found : slice_get shards place ≡ Some shard = slice_get-get_or shards place c.index-self-place.result below in
    c.greatest.ensures
    ∙ greatest_there net shards eui shard c.self.invariant.2 (subst (λ (n : ℕ). slice_get shards n ≡ Some shard) own found)
    ∙ ap (λ (ss : List State). greatest_of net ss eui) c.self.view_is
