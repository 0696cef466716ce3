use Rattle.std.proofs.Common.{ap, ◌∙◌, length, arith, rules}
use Rattle.ns_shard.proofs.Trimmed.{stay-is, numbers-of-entries, entries-kept, entries-dropped, count-kept, names-kept}
use Rattle.ns_shard.proofs.parts.Parts.staying.Goals as goal

pub returns-then-made-as_slice-clause-full : goal.returns-then-made-as_slice-clause-full
returns-then-made-as_slice-clause-full c = λ full.
    let p = c.args.self.now in
    let stay = stay-is p c.requires c.as_slice.result.now c.entries.result.now c.in_ok-stay.stay.items (c.as_slice.ensures.value ∙ c.in_ok-named.ensures) c.entries.ensures c.in_ok-stay.ensures in
    let count = count-kept p c.requires c.in_ok-stay.stay.items stay in
    omega (arith, count, ap length c.as_slice-2.ensures.value)

pub returns : goal.returns
returns c =
    let p = c.args.self.now in
    let stay = stay-is p c.requires c.as_slice.result.now c.entries.result.now c.in_ok-stay.stay.items (c.as_slice.ensures.value ∙ c.in_ok-named.ensures) c.entries.ensures c.in_ok-stay.ensures in
    record {
      named = names-kept p c.requires c.in_ok-named.named.items c.in_ok-named.ensures;
      numbers = numbers-of-entries p c.requires c.in_ok-stay.stay.items stay;
      stay = entries-kept p c.requires c.in_ok-stay.stay.items stay;
      go = entries-dropped p c.requires c.in_ok-stay.stay.items stay;
      fits = search rules;
      full = search rules;
    }
