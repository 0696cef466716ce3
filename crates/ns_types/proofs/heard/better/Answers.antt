use Rattle.std.proofs.Common.{Some, cond, ap, sym, ◌∙◌}
use Rattle.ns_types.specs.Heard.{better}
use Rattle.ns_types.proofs.HeardLemmas.{best-one_more}
use Rattle.ns_types.proofs.heard.better.Goals as goal

pub returns-then-beats-clause-one_more : goal.returns-then-beats-clause-one_more
returns-then-beats-clause-one_more c = λ copies is.
    (let first = c.args.first.now in
    let second = c.args.second.now in
    best-one_more copies second ∙ (ap (λ o. Some (better o second)) is ∙ ap (λ b. Some (cond b second first)) (sym c.beats.ensures ∙ c.if-beats.true)))

pub returns-else-beats-clause-one_more : goal.returns-else-beats-clause-one_more
returns-else-beats-clause-one_more c = λ copies is.
    (let first = c.args.first.now in
    let second = c.args.second.now in
    best-one_more copies second ∙ (ap (λ o. Some (better o second)) is ∙ ap (λ b. Some (cond b second first)) (sym c.beats.ensures ∙ c.if-beats.false)))
