-- How a run of the program ends: its exit status, also where the words of the command line ask for nothing that is to be done.
use Rattle.std.specs.Prelude.{◌≡◌, ◌≤◌, ◌⊎◌, ℕ, List, Ok, Err}
use Rattle.clap.specs.Values.{kind_of}
use Rattle.clap.specs.declared.error.kind.ErrorKind.TheVariants.{DisplayHelp, DisplayVersion}
use Rattle.clap.specs.declared.error.Error.{Error}
use Rattle.clap.specs.Words.{Text}
use Rattle.ns_words.specs.Asked.{IsAsked, IsDoable}
use Rattle.ns_words.specs.Refused.{IsRefusal, IsTold}
use Rattle.ns_words.specs.declared.options.BadWords.{BadWords}
use Rattle.ns_words.specs.declared.options.BadWords.TheVariants.{NoMemory, NotText, BadValue, Shown}
use Rattle.ns_words.specs.declared.options.Asked.{Asked}
use Rattle.ns_commands.specs.declared.ending.End.{End}
use Rattle.ns_commands.specs.declared.ending.End.TheVariants.{Ran, Refused}

-- a text that was asked for, and no mistake in the words
abbrev pub IsAskedFor : Error → Type 0
IsAskedFor error = (kind_of error ≡ DisplayHelp) ⊎ (kind_of error ≡ DisplayVersion)

-- 1 for want of memory; 2 for bad words; 0 for help and the version, or 1 where they could not be printed
abbrev pub IsStatusOf : BadWords → ℕ → Type 0
IsStatusOf NoMemory status = status ≡ 1
IsStatusOf NotText status = status ≡ 2
IsStatusOf (BadValue name) status = status ≡ 2
IsStatusOf (Shown error) status = (IsAskedFor error → status ≤ 1) × (¬ IsAskedFor error → status ≡ 2)

-- 0 where what was asked for was done, 1 after a fault
abbrev pub IsEnd : End → ℕ → Type 0
IsEnd (Ran (Ok done)) status = status ≡ 0
IsEnd (Ran (Err fault)) status = status ≡ 1
IsEnd (Refused bad) status = IsStatusOf bad status

-- where something was run, the words ask for something that can be done; a refusal is of words that are refused, and told
abbrev pub IsRun : List Text → End → Type 0
IsRun words (Ran outcome) = (asked : Asked) × IsAsked words asked × IsDoable asked
IsRun words (Refused bad) = IsTold bad × IsRefusal words bad
