use Rattle.std.proofs.Common.{rules, ◌++◌, drop, length, refl, ap, ◌∙◌}
use Rattle.ns_types.proofs.ByteLemmas.{AreBytes-slice}
use Rattle.ns_views.proofs.Lent.{WorksOnParts-call, ShowsParts-cuts, writes-cut}
use Rattle.ns_views.proofs.parts.known_parts_mut.Goals as goal

pub work-requires : goal.work-requires
work-requires g c =
    let bytes = c.args.bytes.now in
    let places = c.of-places.result in
    let said = c.of-places.ensures in
    let front = c.split_at_mut-front.result.0.now in
    let head = c.split_at_mut-head.result.0.now in
    c.requires.work _ (ShowsParts-cuts bytes front head places.options places.payload places.mic c.split_at_mut-front.ensures.front c.split_at_mut-head.ensures.front said.order said.inside.0
    _ _ c.split_at.ensures.front c.split_at.ensures.back refl c.split_at_mut-head.ensures.back said.options said.lent)

pub returns : goal.returns
returns g c =
    let bytes = c.args.bytes.now in
    let places = c.of-places.result in
    let said = c.of-places.ensures in
    let front = c.split_at_mut-front.result.0.now in
    let head = c.split_at_mut-head.result.0.now in
    let after = (head ++ c.work.new.arg4) ++ c.split_at_mut-front.result.1.now in
    WorksOnParts-call g.F.FnOnce c.args.work bytes c.work.result after _ _ c.requires.uplink (AreBytes-slice after (λ i. search rules)) c.work.ensures
    (ShowsParts-cuts bytes front head places.options places.payload places.mic c.split_at_mut-front.ensures.front c.split_at_mut-head.ensures.front said.order said.inside.0
    _ _ c.split_at.ensures.front c.split_at.ensures.back refl c.split_at_mut-head.ensures.back said.options said.lent)
    (c.work.auto.arg4 ∙ ap length (c.split_at_mut-head.ensures.back ∙ ap (drop places.payload) c.split_at_mut-front.ensures.front ∙ said.lent))
    (writes-cut bytes front head places.options places.payload places.mic c.split_at_mut-front.ensures.front c.split_at_mut-head.ensures.front said.order said.inside.0 _ _ c.split_at_mut-front.ensures.back said.payload said.mic)
