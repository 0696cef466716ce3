use Rattle.std.proofs.Common.{◌≡◌, List, [], true, Ok, Err, Result, Some, subst, map, ap, sym, string_bytes, ◌∙◌}
use Rattle.clap.specs.declared.error.Error.{Error}
use Rattle.clap.specs.declared.parser.matches.ArgMatches.{ArgMatches}
use Rattle.clap.specs.Words.{App, FailsBy, HasKind, Text, fault_of, found_of, is_simple, is_simple_and_free, rows_of, subcommand_of}
use Rattle.ns_words.specs.Commands.{program}
use Rattle.ns_words.specs.Refused.{IsOfClap, IsRefusal, IsTold}
use Rattle.ns_words.proofs.CommandLemmas.{program_free, program_simple}
use Rattle.ns_words.proofs.OptionLemmas.{both_met}
use Rattle.ns_words.proofs.RefusedLemmas.{behind_asked, behind_doable, behind_refused, behind_told, made_err, no_ok, refusal_by_clap, told_of_clap}
use Rattle.ns_words.proofs.options.read_words.Goals as goal

-- clap finds these faults in the words by the program's rules
kinds : (words : List Text) (a : App) (r : Result ArgMatches Error) → a ≡ program → (is_simple_and_free a ≡ true → FailsBy (fault_of a words) r) → FailsBy (fault_of program words) r
kinds words a r is fails = subst (λ (a : App). FailsBy (fault_of a words) r) is (fails (ap is_simple_and_free is ∙ program_free))

pub returns-in_err-matches : goal.returns-in_err-matches
returns-in_err-matches c =
    let words : List Text = map string_bytes c.args.words.now in
    let error = c.in_err-matches.field-0.0 in
    let found : HasKind (fault_of program words) error = kinds words _ (Err error) c.in_ok-commands.ensures c.in_err-matches.ensures.kinds in
    let made = c.from_residual-in_err-matches in
    record {
      told = made_err made.result IsTold (IsOfClap error) (told_of_clap error) made.ensures.1;
      refused = made_err made.result (IsRefusal words) (IsOfClap error) (λ bad is. refusal_by_clap words error bad found is) made.ensures.1;
      doable = no_ok made.result _ (IsOfClap error) made.ensures.1;
      asked = no_ok made.result _ (IsOfClap error) made.ensures.1;
    }

pub returns-in-Some : goal.returns-in-Some
returns-in-Some c =
    let words : List Text = map string_bytes c.args.words.now in
    let none : fault_of program words ≡ [] = kinds words _ (Ok c.in_ok-matches.matches) c.in_ok-commands.ensures c.in_ok-matches.ensures.kinds in
    let rows = rows_of (found_of c.in-Some.found.now) in
    let has = c.in_ok-matches.ensures.matches (ap is_simple c.in_ok-commands.ensures ∙ program_simple) in
    let met = both_met _ _ _ c.in-Some.name.now rows c.in-Some.ensures.name c.in-Some.ensures.rows in
    let named : subcommand_of program words ≡ Some (c.in-Some.name.now, rows) = ap (λ (a : App). subcommand_of a words) (sym c.in_ok-commands.ensures) ∙ (sym has.1 ∙ met) in
    let name = c.in-Some.name.now in
    let read = c.read_command in
    record {
      told = behind_told read.result name rows read.ensures;
      refused = behind_refused read.result words name rows none named read.ensures;
      doable = behind_doable read.result name rows read.ensures;
      asked = behind_asked read.result words name rows none named read.ensures;
    }
