use Rattle.std.proofs.Common.{rules}
use Rattle.std.proofs.lemmas.Result.{IfOk-weaker}
use Rattle.clap.specs.Words.{new_app}
use Rattle.ns_words.specs.Commands.{IsCommand}
use Rattle.ns_words.proofs.CommandLemmas.{IsCommand-args}
use Rattle.ns_words.proofs.options.command.Goals as goal

pub returns : goal.returns
returns c =
    let app = new_app c.args.name.now in
    let start : IsCommand app c.after_help.result = (search rules, search rules) in
    let args = c.in_ok-args.args.items in
    IfOk-weaker c.args-2.result _ _ (λ new turn. IsCommand-args app _ c.after_help.result new args start (c.in_ok-args.ensures app) turn) c.args-2.ensures
