use Rattle.std.proofs.Common.{take}
use Rattle.clap.specs.Words.{App}
use Rattle.ns_words.specs.Commands.{AreAdded, with_arguments}
use Rattle.ns_words.proofs.options.args_of.Given as goal

abbrev pub invariant-loop-argument : goal.invariant-loop-argument
invariant-loop-argument l = (app : App) → AreAdded app l.args.items (with_arguments app (take l.argument-index l.arguments))
