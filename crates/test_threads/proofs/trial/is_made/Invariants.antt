use Rattle.std.specs.Prelude.{slice_index}
use Rattle.std.specs.Arc.{arc_value}
use Rattle.ns_shard.specs.State.{no_entries}
use Rattle.test_threads.proofs.trial.is_made.Given as goal

abbrev pub ghosts-named-B-Naming : goal.ghosts-named-B-Naming
ghosts-named-B-Naming g a = record { roster = arc_value a.roster; begun = no_entries (arc_value a.roster) }

abbrev pub ghosts-named-B-Ledgers : goal.ghosts-named-B-Ledgers
ghosts-named-B-Ledgers g a = record { ledger = λ k. slice_index a.blanks.names k; workers = a.blanks.parts }
