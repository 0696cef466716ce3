use Rattle.std.proofs.Common.{Bool, sym, subst}
use Rattle.clap.specs.Words.{found_of, rows_of}
use Rattle.ns_words.specs.Asked.{IsFlag}
use Rattle.ns_words.proofs.OptionLemmas.{IsFlag-read}
use Rattle.ns_words.proofs.options.flag.Goals as goal

pub returns : goal.returns
returns c =
    subst (λ (b : Bool). IsFlag c.args.name.now (rows_of (found_of c.args.found.now)) b) (sym c.unwrap_or.ensures)
    (IsFlag-read _ (found_of c.args.found.now) c.args.name.now c.get_one.result c.get_one.ensures.none c.get_one.ensures.value)
