use Rattle.std.proofs.Common.{◌≡◌, true, false, Some, ap, refl, sym, codes, ◌∙◌}
use Rattle.std.proofs.lemmas.Slice.Eq.{bytes_eq-Decides}
use Rattle.clap.specs.Words.{found_of}
use Rattle.ns_words.proofs.OptionLemmas.{first_of-got}
use Rattle.ns_words.proofs.RefusedLemmas.{no_first, some_same}
use Rattle.ns_words.proofs.options.output_of.Goals as goal

pub returns-in_default-clause-refused : goal.returns-in_default-clause-refused
returns-in_default-clause-refused c =
    let found = found_of c.args.found.now in (
      refl,
      (
        (λ is. no_first found (codes "output") (codes "lines") c.in_default.ensures is),
        (λ is. no_first found (codes "output") (codes "json") c.in_default.ensures is),
      ),
    )

pub returns-then-eq-clause-output : goal.returns-then-eq-clause-output
returns-then-eq-clause-output c =
    let lines = (bytes_eq-Decides c.in-Some.text.now (codes "lines")).0 (sym c.if-eq.ensures) in
    first_of-got (found_of c.args.found.now) (codes "output") (codes "lines") (sym c.in-Some.ensures ∙ ap Some lines)

pub returns-then-eq-2-clause-output : goal.returns-then-eq-2-clause-output
returns-then-eq-2-clause-output c =
    let json = (bytes_eq-Decides c.in-Some.text.now (codes "json")).0 (sym c.if-eq-2.ensures) in
    first_of-got (found_of c.args.found.now) (codes "output") (codes "json") (sym c.in-Some.ensures ∙ ap Some json)

pub returns-else-eq-2-clause-refused : goal.returns-else-eq-2-clause-refused
returns-else-eq-2-clause-refused c =
    let text = c.in-Some.text.now in
    let got = first_of-got (found_of c.args.found.now) (codes "output") text (sym c.in-Some.ensures) in (
      refl,
      (
        (λ is.
            let same : text ≡ codes "lines" = some_same text (codes "lines") (sym got ∙ is) in
            let bad : false ≡ true = c.if-eq.ensures ∙ (bytes_eq-Decides text (codes "lines")).1 same in
            cc),
        (λ is.
            let same : text ≡ codes "json" = some_same text (codes "json") (sym got ∙ is) in
            let bad : false ≡ true = c.if-eq-2.ensures ∙ (bytes_eq-Decides text (codes "json")).1 same in
            cc),
      ),
    )
