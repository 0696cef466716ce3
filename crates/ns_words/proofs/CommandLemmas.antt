-- Lemmas on commands that are put together argument by argument.
use Rattle.std.proofs.Common.{◌≡◌, ◌<◌, ◌+◌, ◌||◌, ◌++◌, ℕ, List, [], ◌∷◌, Bool, true, false, ap, ap₂, get_or, length, refl, subst, sym, take, ◌∙◌}
use Rattle.std.proofs.lemmas.List.Sums.{fold_more}
use Rattle.clap.specs.Words.{AddsArg, AddsInTurn, AddsSubcommand, App, Rule, app_of, is_simple, is_simple_and_free, rule_of, with_rule, with_subcommand}
use Rattle.clap.specs.declared.builder.arg.Arg.{Arg}
use Rattle.clap.specs.declared.builder.command.Command.{Command}
use Rattle.clap.specs.declared.builder.command.Command.TheViews.{out-Command}
use Rattle.ns_words.specs.declared.options.Argument.{Argument}
use Rattle.ns_words.specs.declared.options.Subcommand.{Subcommand}
use Rattle.ns_words.specs.Commands.{AreAdded, AreBelow, IsArg, IsCommand, app_by, check_app, compact_app, program, replay_app, rule_by, serve_app, with_arguments, with_subcommands}

either_false : (a b : Bool) → a ≡ false → b ≡ false → (a || b) ≡ false
either_false a b is_a is_b = ap₂ ◌||◌ is_a is_b

pub IsCommand-arg : (app : App) (rule : Rule) (old new : Command) (a : Arg) → IsCommand app old → IsArg rule a → AddsArg old a new → IsCommand (with_rule app rule) new
IsCommand-arg app rule old new a is arg added =
    (added.shape arg.1 ∙ ap₂ with_rule is.0 arg.0, added.globals ∙ either_false (out-Command old).has_globals a.global is.1 arg.1)

-- one more argument, behind the others
pub AreAdded-more : (old app : App) (rule : Rule) (args : List Arg) (arg : Arg) → AreAdded old args app → IsArg rule arg
    → AreAdded old (args ++ arg ∷ []) (with_rule app rule)
AreAdded-more old app rule [] arg added is = (is.1, ap₂ with_rule added is.0)
AreAdded-more old app rule (first ∷ args) arg added is = (added.0, AreAdded-more (with_rule old (rule_of first)) app rule args arg added.1 is)

-- and one more command, behind the others
pub AreBelow-more : (old app below : App) (commands : List Command) (c : Command) → AreBelow old commands app → IsCommand below c
    → AreBelow old (commands ++ c ∷ []) (with_subcommand app below.top)
AreBelow-more old app below [] c added is = (is.1, ap₂ with_subcommand added (ap (λ (a : App). a.top) is.0))
AreBelow-more old app below (first ∷ commands) c added is = (added.0, AreBelow-more (with_subcommand old (app_of first).top) app below commands c added.1 is)

-- the next of the arguments, and of the commands
pub AreAdded-next : (app : App) (rows : List Argument) (i : ℕ) (d : Argument) (args more : List Arg) (arg : Arg) → i < length rows
    → AreAdded app args (with_arguments app (take i rows)) → IsArg (rule_by (get_or rows i d)) arg → more ≡ args ++ arg ∷ []
    → AreAdded app more (with_arguments app (take (i + 1) rows))
AreAdded-next app rows i d args more arg below added is made =
    subst (λ (a : App). AreAdded app more a) (sym (fold_more (λ app a. with_rule app (rule_by a)) app rows i d below))
    (subst (λ (l : List Arg). AreAdded app l (with_rule (with_arguments app (take i rows)) (rule_by (get_or rows i d)))) (sym made)
    (AreAdded-more app (with_arguments app (take i rows)) (rule_by (get_or rows i d)) args arg added is))

pub AreBelow-next : (app : App) (rows : List Subcommand) (i : ℕ) (d : Subcommand) (commands more : List Command) (c : Command) → i < length rows
    → AreBelow app commands (with_subcommands app (take i rows)) → IsCommand (app_by (get_or rows i d)) c → more ≡ commands ++ c ∷ []
    → AreBelow app more (with_subcommands app (take (i + 1) rows))
AreBelow-next app rows i d commands more c below added is made =
    subst (λ (a : App). AreBelow app more a) (sym (fold_more (λ app row. with_subcommand app (app_by row).top) app rows i d below))
    (subst (λ (l : List Command). AreBelow app l (with_subcommand (with_subcommands app (take i rows)) (app_by (get_or rows i d)).top)) (sym made)
    (AreBelow-more app (with_subcommands app (take i rows)) (app_by (get_or rows i d)) commands c added is))

pub IsCommand-args : (app made : App) (old new : Command) (args : List Arg) → IsCommand app old → AreAdded app args made → AddsInTurn AddsArg old args new
    → IsCommand made new
IsCommand-args app made old new [] is added turn = subst (λ (c : Command). IsCommand made c) turn (subst (λ (a : App). IsCommand a old) added is)
IsCommand-args app made old new (arg ∷ args) is added turn =
    IsCommand-args (with_rule app (rule_of arg)) made turn.0 new args (IsCommand-arg app (rule_of arg) old turn.0 arg is (refl, added.0) turn.1) added.1 turn.2

pub IsCommand-subcommand : (app below : App) (old sub new : Command) → IsCommand app old → IsCommand below sub → AddsSubcommand old sub new
    → IsCommand (with_subcommand app below.top) new
IsCommand-subcommand app below old sub new is is_sub added = (
  added.shape is_sub.1 ∙ ap₂ with_subcommand is.0 (ap (λ (a : App). a.top) is_sub.0),
  added.globals ∙ either_false (out-Command old).has_globals (out-Command sub).has_globals is.1 is_sub.1,
)

pub IsCommand-subcommands : (app made : App) (old new : Command) (commands : List Command) → IsCommand app old → AreBelow app commands made
    → AddsInTurn AddsSubcommand old commands new → IsCommand made new
IsCommand-subcommands app made old new [] is added turn =
    subst (λ (c : Command). IsCommand made c) turn (subst (λ (a : App). IsCommand a old) added is)
IsCommand-subcommands app made old new (c ∷ commands) is added turn =
    IsCommand-subcommands (with_subcommand app (app_of c).top) made turn.0 new commands
    (IsCommand-subcommand app (app_of c) old c turn.0 is (refl, added.0) turn.1) added.1 turn.2

-- clap gives the matches of the program's words exactly
pub program_simple : is_simple program ≡ true
unfolding program serve_app replay_app check_app compact_app
program_simple = refl

-- and the kinds of its errors
pub program_free : is_simple_and_free program ≡ true
unfolding program serve_app replay_app check_app compact_app
program_free = refl
