use Rattle.std.proofs.Common.{◌∙◌, codes, inl, inr, refl, sym}
use Rattle.clap.specs.Words.{found_of}
use Rattle.clap.proofs.WalkLemmas.{first_value-rows}
use Rattle.ns_words.proofs.OptionLemmas.{first_of-got}
use Rattle.ns_words.proofs.options.read_compact.Goals as goal

pub returns-in-Some : goal.returns-in-Some
returns-in-Some c = λ roster. (tt, refl, (roster, first_of-got (found_of c.args.found.now) (codes "DIR") c.in-Some.folder.now (sym c.in-Some.ensures)))

pub returns-in-None : goal.returns-in-None
returns-in-None c = λ roster. inr (inl (refl, sym (first_value-rows (found_of c.args.found.now) (codes "DIR")) ∙ sym c.in-None.ensures))
