use Rattle.std.proofs.Common.{◌∙◌, codes, refl}
use Rattle.clap.specs.Words.{found_of}
use Rattle.clap.proofs.WalkLemmas.{first_value-rows}
use Rattle.ns_words.proofs.options.read_check.Goals as goal

pub returns : goal.returns
returns c = λ roster. (tt, refl, (roster, c.get_str.ensures ∙ first_value-rows (found_of c.args.found.now) (codes "record")))
