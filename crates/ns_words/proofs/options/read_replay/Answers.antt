use Rattle.std.proofs.Common.{codes, refl}
use Rattle.clap.specs.Words.{found_of, rows_of}
use Rattle.ns_words.proofs.RefusedLemmas.{behind_on, refused_replay}
use Rattle.ns_words.proofs.options.read_replay.Goals as goal

pub returns-in_err-output : goal.returns-in_err-output
returns-in_err-output c = λ roster.
    let rows = rows_of (found_of c.args.found.now) in
    let bad = c.in_err-output.field-0.0 in
    behind_on c.from_residual.result (codes "replay") rows bad
    (refused_replay (codes "replay") rows bad refl c.in_err-output.ensures.refused.0 c.in_err-output.ensures.refused.1) c.from_residual.ensures.1

pub returns : goal.returns
returns c = λ roster. (tt, refl, (roster, c.in_ok-output.ensures.output, c.flag.ensures))
