use Rattle.std.proofs.Common.{rules}
use Rattle.std.proofs.lemmas.Result.{IfOk-weaker}
use Rattle.ns_words.specs.Commands.{IsCommand, named_app, program}
use Rattle.ns_words.proofs.CommandLemmas.{IsCommand-subcommands}
use Rattle.ns_words.proofs.options.commands.Goals as goal

pub returns : goal.returns
returns c =
    let start : IsCommand named_app c.subcommand_required.result = (search rules, search rules) in
    let commands = c.in_ok-commands.commands.items in
    IfOk-weaker c.subcommands-2.result _ _
    (λ new turn. (IsCommand-subcommands named_app program c.subcommand_required.result new commands start c.in_ok-commands.ensures turn).0)
    c.subcommands-2.ensures
