use Rattle.std.specs.Prelude.{slice_index}
use Rattle.std.specs.Arc.{arc_value}
use Rattle.ns_shard.specs.State.{no_entries}
use Rattle.worked_texts.proofs.embedding.threads.two_workers.Given as goal

abbrev pub ghosts-run-B-Naming : goal.ghosts-run-B-Naming
ghosts-run-B-Naming g a = record { roster = arc_value a.roster; begun = no_entries (arc_value a.roster) }

abbrev pub ghosts-run-B-Ledgers : goal.ghosts-run-B-Ledgers
ghosts-run-B-Ledgers g a = record { ledger = λ k. slice_index a.blanks.names k; workers = a.blanks.parts }
