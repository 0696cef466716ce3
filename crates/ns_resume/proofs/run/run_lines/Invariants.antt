use Rattle.std.proofs.Common.{ℕ, List, []}
use Rattle.ns_roster.specs.Network.{Network}
use Rattle.ns_calls.specs.declared.call.Entry.{Entry}
use Rattle.ns_runs.specs.KeptSteps.{AreKeptFrom}
use Rattle.ns_resume.specs.Private.Running.{RunsUpTo}
use Rattle.ns_resume.proofs.run.run_lines.Given as goal

-- the lines so far were run
abbrev pub invariant-lines : goal.invariant-lines
invariant-lines g l =
    (net : Network) (starts : ℕ → List Entry) → AreKeptFrom net starts [] l.fn.shards.items
    → RunsUpTo net starts l.fn.first l.fn.before l.number (g.S.Read.remaining l.fn.steps) (g.S.Read.remaining l.steps) (g.U.Read.remaining l.fn.ups) (g.U.Read.remaining l.ups) l.running
