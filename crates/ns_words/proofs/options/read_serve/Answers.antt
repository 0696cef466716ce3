use Rattle.std.proofs.Common.{codes, refl}
use Rattle.clap.specs.Words.{found_of, rows_of}
use Rattle.ns_words.proofs.RefusedLemmas.{behind_on, refused_serve}
use Rattle.ns_words.proofs.options.read_serve.Goals as goal

pub returns-in_err-options : goal.returns-in_err-options
returns-in_err-options c = λ roster.
    let rows = rows_of (found_of c.args.found.now) in
    let bad = c.in_err-options.field-0.0 in
    behind_on c.from_residual.result (codes "serve") rows bad (refused_serve (codes "serve") rows bad refl c.in_err-options.ensures) c.from_residual.ensures.1

pub returns-in_err-record_options : goal.returns-in_err-record_options
returns-in_err-record_options c = λ roster.
    let rows = rows_of (found_of c.args.found.now) in
    let bad = c.in_err-record_options.field-0.0 in
    behind_on c.from_residual-in_err-record_options.result (codes "serve") rows bad (refused_serve (codes "serve") rows bad refl c.in_err-record_options.ensures.refused)
    c.from_residual-in_err-record_options.ensures.1

pub returns : goal.returns
returns c = λ roster. (c.in_ok-options.ensures.0, refl, (roster, c.in_ok-options.ensures.1, c.in_ok-record_options.ensures.record))
