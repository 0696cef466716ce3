use Rattle.std.proofs.Common.{◌≡◌, true, false, Some, ap, sym, codes, ◌∙◌}
use Rattle.clap.specs.Words.{rows_of}
use Rattle.ns_words.specs.Refused.{IsNotNever}
use Rattle.ns_words.proofs.RefusedLemmas.{from_err, no_first, some_same}
use Rattle.ns_words.proofs.options.trim.Goals.{in_default-via-in-Some+else-eq, in_default-via-in_default}
use Rattle.std.proofs.lemmas.Slice.Eq.{bytes_eq-Decides}
use Rattle.clap.specs.Words.{found_of}
use Rattle.ns_words.proofs.OptionLemmas.{first_of-got}
use Rattle.ns_words.proofs.options.trim.Goals as goal

pub returns-in_err-count-in_default-clause-refused : goal.returns-in_err-count-in_default-clause-refused
returns-in_err-count-in_default-clause-refused c =
    let found = found_of c.args.found.now in
    let other : IsNotNever (codes "trim") (rows_of found) = elim c.in_default.branch [
      | in_default-via-in-Some+else-eq w ↦ λ is.
          let got = first_of-got found (codes "trim") w.in-Some.text.now (sym w.in-Some.ensures) in
          let same : w.in-Some.text.now ≡ codes "never" = some_same w.in-Some.text.now (codes "never") (sym got ∙ is) in
          let bad : false ≡ true = w.if-eq.ensures ∙ (bytes_eq-Decides w.in-Some.text.now (codes "never")).1 same in
          cc
      | in_default-via-in_default w ↦ λ is. no_first found (codes "trim") (codes "never") w.in_default.ensures is
    ] in
    from_err c.from_residual.result _ c.in_err-count-in_default.field-0.0
    (c.in_err-count-in_default.ensures.refused.0, other, c.in_err-count-in_default.ensures.refused.1) c.from_residual.ensures.1

pub returns-in-Some-clause-number : goal.returns-in-Some-clause-number
returns-in-Some-clause-number c =
    let never = (bytes_eq-Decides c.in-Some.text.now (codes "never")).0 (sym c.if-eq.ensures) in
    first_of-got (found_of c.args.found.now) (codes "trim") (codes "never") (sym c.in-Some.ensures ∙ ap Some never)
