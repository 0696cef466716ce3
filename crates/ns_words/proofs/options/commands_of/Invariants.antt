use Rattle.std.proofs.Common.{take}
use Rattle.clap.specs.Words.{App}
use Rattle.ns_words.specs.Commands.{AreBelow, with_subcommands}
use Rattle.ns_words.proofs.options.commands_of.Given as goal

abbrev pub invariant-loop-row : goal.invariant-loop-row
invariant-loop-row l = (app : App) → AreBelow app l.commands.items (with_subcommands app (take l.row-index l.rows))
