use Rattle.std.proofs.Common.{refl, sym, ◌∙◌}
use Rattle.std.proofs.lemmas.Option.{slice_get_read}
use Rattle.ns_server.proofs.Checking.{since_mark, stands_there, stands_nowhere}
use Rattle.ns_server.proofs.settled.Settled.has.Goals as goal

pub returns-then-place-shards : goal.returns-then-place-shards
returns-then-place-shards g c = stands_nowhere _ c.self.inside.shards c.args.receipt.now c.from-place.result c.self.view_is c.from-place.ensures c.if-place-shards.true

pub stands_in-requires-clause-set_up : goal.stands_in-requires-clause-set_up
stands_in-requires-clause-set_up g c =
    let found = slice_get_read c.self.inside.shards _ c.from-place.result _ refl c.if-place-shards.false c.index-shards-place.is in
    (c.self.invariant.2 c.from-place.result _ found).set_up ∙ sym (c.deref.ensures ∙ c.self.invariant.0)

pub stands_in-requires-clause-from_mark : goal.stands_in-requires-clause-from_mark
stands_in-requires-clause-from_mark g c =
    let found = slice_get_read c.self.inside.shards _ c.from-place.result _ refl c.if-place-shards.false c.index-shards-place.is in
    since_mark _ c.self.inside.shards c.args.receipt.now c.from-place.result _ c.self.view_is c.from-place.ensures found c.requires

pub returns : goal.returns
returns g c =
    let found = slice_get_read c.self.inside.shards _ c.from-place.result _ refl c.if-place-shards.false c.index-shards-place.is in
    stands_there _ c.self.inside.shards c.args.receipt.now c.from-place.result _ c.stands_in.result c.self.view_is c.from-place.ensures found c.stands_in.ensures
