use Rattle.std.specs.Prelude.{slice_index}
use Rattle.std.specs.Arc.{arc_value}
use Rattle.ns_server.specs.Begun.{states_at}
use Rattle.ns_serve.proofs.service.serve_with.Given as goal

abbrev pub ghosts-run_server-B-Naming : goal.ghosts-run_server-B-Naming
ghosts-run_server-B-Naming g a = record { roster = arc_value a.roster; begun = states_at (arc_value a.roster) a.begun.shards.items }

abbrev pub ghosts-run_server-B-Ledgers : goal.ghosts-run_server-B-Ledgers
ghosts-run_server-B-Ledgers g a = record { ledger = λ k. slice_index a.blanks.names k; workers = a.blanks.parts }
