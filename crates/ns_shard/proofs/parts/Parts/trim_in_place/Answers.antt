use Rattle.std.proofs.Common.{refl, ap, ◌∙◌}
use Rattle.ns_journal.specs.State.{with_numbers}
use Rattle.ns_shard.proofs.Trimmed.{state-trimmed, parts-trimmed}
use Rattle.ns_shard.proofs.parts.Parts.trim_in_place.Goals as goal

pub returns-clause-agree : goal.returns-clause-agree
returns-clause-agree c =
    let p = c.args.self.now in
    let kept = c.keep-count.ensures.entries ∙ (ap (λ ns. with_numbers ns p.journal.entries) c.as_slice.ensures.value ∙ c.in_ok-named.ensures.stay) in
    let made = c.keep-count.ensures.made in
    parts-trimmed p c.requires (record p { journal = c.keep-count.new.self; mark = c.made-self.result; named = c.in_ok-named.named })
    (state-trimmed p c.requires c.keep-count.new.self c.made-self.result c.in_ok-named.named.items made kept (c.made-self.ensures ∙ made) c.in_ok-named.ensures.named)
    refl refl c.keep-count.ensures.reserved
