use Rattle.std.specs.Prelude.{slice_index}
use Rattle.std.specs.Arc.{arc_value}
use Rattle.ns_shard.specs.State.{no_entries}
use Rattle.test_threads.proofs.kept_tests.made_by.Given as goal

abbrev pub ghosts-done-B-Naming : goal.ghosts-done-B-Naming
ghosts-done-B-Naming a = record { roster = arc_value a.roster; begun = no_entries (arc_value a.roster) }

abbrev pub ghosts-done-B-Ledgers : goal.ghosts-done-B-Ledgers
ghosts-done-B-Ledgers a = record { ledger = λ k. slice_index a.blanks.names k; workers = a.blanks.parts }
