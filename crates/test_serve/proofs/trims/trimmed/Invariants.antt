use Rattle.std.specs.Prelude.{slice_index}
use Rattle.std.specs.Arc.{arc_value}
use Rattle.ns_shard.specs.State.{no_entries}
use Rattle.test_serve.proofs.trims.trimmed.Given as goal

abbrev pub ghosts-trimmed_by-B-Naming : goal.ghosts-trimmed_by-B-Naming
ghosts-trimmed_by-B-Naming g a = record { roster = arc_value a.roster; begun = no_entries (arc_value a.roster) }

abbrev pub ghosts-trimmed_by-B-Ledgers : goal.ghosts-trimmed_by-B-Ledgers
ghosts-trimmed_by-B-Ledgers g a = record { ledger = λ k. slice_index a.blanks.names k; workers = a.blanks.parts }
