use Rattle.ns_runs.specs.KeptSteps.{AreReached}
use Rattle.test_parts.proofs.runs.right_trimmed_steps.Given as goal

-- the shards are what some steps leave
abbrev pub invariant-steps : goal.invariant-steps
invariant-steps l = AreReached l.shards
