-- The program's command line, as clap reads it: its commands, their options, and what stands where a word leaves an option out.
use Rattle.std.specs.Prelude.{◌≡◌, ℕ, List, [], ◌∷◌, Some, true, false, codes, fold}
use Rattle.clap.specs.Words.{App, Rule, Text, app_of, new_app, new_rule, rule_of, with_rule, with_subcommand}
use Rattle.clap.specs.Walk.{texts}
use Rattle.clap.specs.declared.builder.arg.Arg.{Arg}
use Rattle.clap.specs.declared.builder.command.Command.{Command}
use Rattle.clap.specs.declared.builder.command.Command.TheViews.{out-Command}
use Rattle.clap.specs.declared.builder.action.ArgAction.TheVariants.{Set, SetTrue}
use Rattle.clap.specs.declared.builder.value_parser.ValueParser.TheVariants.{Unsigned}
use Rattle.ns_words.specs.declared.options.Argument.{Argument}
use Rattle.ns_words.specs.declared.options.Form.{Form}
use Rattle.ns_words.specs.declared.options.Form.TheVariants.{Place, Switch, Number}
use Rattle.ns_words.specs.declared.options.Form.TheVariants as form
use Rattle.ns_words.specs.declared.options.Subcommand.{Subcommand}

-- the roster's file, which each command needs
abbrev pub roster_rule : Rule
roster_rule = record (new_rule (codes "ROSTER")) { required = true; action = Some Set }

-- the folder of a record
abbrev pub folder_rule : Rule
folder_rule = record (new_rule (codes "DIR")) { required = true; action = Some Set }

-- an option with a text
abbrev pub option_rule : Text → Rule
option_rule name = record (new_rule name) { long = Some name; action = Some Set; value_names = 1 }

-- an option with a number from 1 to this
abbrev pub number_rule : Text → ℕ → Rule
number_rule name most = record (option_rule name) { parser = Some (Unsigned 1 most) }

-- an option without a value
abbrev pub switch_rule : Text → Rule
switch_rule name = record (new_rule name) { long = Some name; action = Some SetTrue }

-- the option that asks for the closing roster
abbrev pub closing_rule : Rule
closing_rule = switch_rule (codes "closing")

-- the option with the address at which the status is told
abbrev pub status_rule : Rule
status_rule = option_rule (codes "status")

-- the option with a name under which it may be asked for
abbrev pub status_host_rule : Rule
status_host_rule = option_rule (codes "status-host")

-- the option that asks for events
abbrev pub events_rule : Rule
events_rule = switch_rule (codes "events")

-- an option that each use of the command needs
abbrev pub needed : Rule → Rule
needed rule = record rule { required = true }

-- an option with the value that it has where it is left out
abbrev pub else_value : Text → Rule → Rule
else_value text rule = record rule { defaults = text ∷ [] }

-- the options of `serve` about the join server, and about where gateways are heard
abbrev pub address_rules : List Rule
address_rules =
    needed (option_rule (codes "join"))
    ∷ else_value (codes "localhost") (option_rule (codes "host"))
    ∷ option_rule (codes "listen")
    ∷ option_rule (codes "forwarders")
    ∷ else_value (codes "14") (number_rule (codes "power") 27)
    ∷ []

-- those about how many threads there are
abbrev pub worker_rules : List Rule
worker_rules = else_value (codes "4") (number_rule (codes "workers") 16) ∷ else_value (codes "4") (number_rule (codes "join-workers") 16) ∷ []

-- those about when a window is closed, the server stops, and a shard is trimmed
abbrev pub limit_rules : List Rule
limit_rules =
    else_value (codes "200") (number_rule (codes "window") 60000)
    ∷ number_rule (codes "stop-after") 4294967295
    ∷ switch_rule (codes "stop-at-end-of-input")
    ∷ else_value (codes "5000") (option_rule (codes "trim"))
    ∷ []

-- those about what the calls of the server are put down in
abbrev pub record_rules : List Rule
record_rules = option_rule (codes "record") ∷ switch_rule (codes "sync") ∷ []

-- how uplinks are written
abbrev pub output_rules : List Rule
output_rules = else_value (codes "lines") (option_rule (codes "output")) ∷ []

-- a command with these arguments behind its own
abbrev pub with_rules : App → List Rule → App
with_rules = fold with_rule

unfoldable pub serve_app : App
serve_app =
    let heard = with_rules (with_rule (new_app (codes "serve")) roster_rule) address_rules in
    let kept = with_rules (with_rules (with_rules heard worker_rules) limit_rules) record_rules in
    with_rule (with_rule (with_rule (with_rule (with_rules kept output_rules) events_rule) status_rule) status_host_rule) closing_rule

unfoldable pub replay_app : App
replay_app = with_rule (with_rules (with_rule (new_app (codes "replay")) roster_rule) output_rules) closing_rule

unfoldable pub check_app : App
check_app = with_rule (with_rule (new_app (codes "check")) roster_rule) (option_rule (codes "record"))

unfoldable pub compact_app : App
compact_app = with_rule (with_rule (new_app (codes "compact")) roster_rule) folder_rule

-- the program, with a version
abbrev pub named_app : App
named_app = let app = new_app (codes "lorawan_ns") in record app { top = record app.top { has_version = true; subcommand_required = true } }

unfoldable pub program : App
program = with_subcommand (with_subcommand (with_subcommand (with_subcommand named_app replay_app.top) check_app.top) compact_app.top) serve_app.top

-- the command is this one, with no argument that holds for the commands below it
abbrev pub IsCommand : App → Command → Type 0
IsCommand app c = (app_of c ≡ app) × ((out-Command c).has_globals ≡ false)

-- the argument is read by this rule, in its own command alone
abbrev pub IsArg : Rule → Arg → Type 0
IsArg rule arg = (rule_of arg ≡ rule) × (arg.global ≡ false)

-- the arguments, each in its own command alone, added in turn to the first command make the second
abbrev pub AreAdded : App → List Arg → App → Type 0
AreAdded old [] new = old ≡ new
AreAdded old (arg ∷ args) new = (arg.global ≡ false) × AreAdded (with_rule old (rule_of arg)) args new

-- the commands, with no argument that holds for the commands below them, added in turn to the first command make the second
abbrev pub AreBelow : App → List Command → App → Type 0
AreBelow old [] new = old ≡ new
AreBelow old (c ∷ cs) new = ((out-Command c).has_globals ≡ false) × AreBelow (with_subcommand old (app_of c).top) cs new

-- an argument in this form and of this name, and how it is read otherwise
abbrev pub formed : Form → Text → Rule → Rule
formed Place name rule = record rule { action = Some Set }
formed Switch name rule = record rule { long = Some name; action = Some SetTrue }
formed (form.Text value) name rule = record rule { long = Some name; value_names = 1; action = Some Set }
formed (Number value most) name rule = record rule { long = Some name; value_names = 1; action = Some Set; parser = Some (Unsigned 1 most) }

-- how an argument is read, and a command with such arguments and one with such commands below it
abbrev pub plain_rule : Argument → Rule
plain_rule a = record (new_rule a.name.now) { required = a.required; defaults = texts a.defaults.now }

abbrev pub rule_by : Argument → Rule
rule_by a = formed a.form a.name.now (plain_rule a)

abbrev pub with_arguments : App → List Argument → App
with_arguments = fold (λ app a. with_rule app (rule_by a))

abbrev pub app_by : Subcommand → App
app_by c = with_arguments (new_app c.name.now) c.arguments.now

abbrev pub with_subcommands : App → List Subcommand → App
with_subcommands = fold (λ app c. with_subcommand app (app_by c).top)
