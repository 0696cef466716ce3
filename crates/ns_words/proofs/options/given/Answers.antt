use Rattle.std.proofs.Common.{◌≡◌, None, sym, subst}
use Rattle.ns_words.specs.Refused.{IsThere}
use Rattle.ns_words.proofs.RefusedLemmas.{from_err, is_there}
use Rattle.clap.specs.Words.{found_of, one_of, rows_of}
use Rattle.ns_words.proofs.OptionLemmas.{no_value}
use Rattle.ns_words.proofs.options.given.Goals as goal

pub returns-in_err-count-clause-refused : goal.returns-in_err-count-clause-refused
returns-in_err-count-clause-refused c =
    let found = found_of c.args.found.now in
    let there = subst (λ id. IsThere id (rows_of found)) c.as_str.ensures (is_there found c.as_str.result.now (sym c.if-contains_id.ensures)) in
    from_err c.from_residual.result _ c.in_err-count.field-0.0 (c.in_err-count.ensures.refused.0, there, c.in_err-count.ensures.refused.1) c.from_residual.ensures.1

pub returns-else-contains_id-clause-number : goal.returns-else-contains_id-clause-number
returns-else-contains_id-clause-number c =
    subst (λ id. one_of id (rows_of (found_of c.args.found.now)) ≡ None) c.as_str.ensures (no_value (found_of c.args.found.now) c.as_str.result.now (sym c.if-contains_id.ensures))
