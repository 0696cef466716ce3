use Rattle.ns_words.specs.Commands.{check_app, compact_app, named_app, program, replay_app, serve_app}
use Rattle.ns_words.proofs.options.subcommands.Goals as goal

pub returns : goal.returns
unfolding program serve_app replay_app check_app compact_app
returns c = c.commands_of.ensures named_app
