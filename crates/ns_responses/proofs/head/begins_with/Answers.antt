use Rattle.std.proofs.Common.{◌≡◌, ◌-◌, ap, sym, ◌∙◌, arith, rules, take, length, min}
use Rattle.std.proofs.lemmas.List.{take_min}
use Rattle.ns_responses.proofs.head.begins_with.Goals as goal

pub returns : goal.returns
returns c =
    let line = c.args.line.now in
    let count : c.min.result - 0 ≡ min (length c.args.text.now) (length line) = omega (arith, c.min.ensures) in
    let same : take (length c.args.text.now) line ≡ take (c.min.result - 0) line = sym (ap (λ n. take n line) count ∙ take_min (length c.args.text.now) line) in
    rw same (search rules)
