use Rattle.std.proofs.Common.{[]}
use Rattle.std.specs.Arc.{arc_value}
use Rattle.ns_runs.proofs.KeptSteps.{kept-whole}
use Rattle.ns_runs.proofs.run.Shards.new.Goals as goal

pub returns-clause-kept : goal.returns-clause-kept
returns-clause-kept c = kept-whole _ [] _ c.in_ok-new_shards.ensures

pub returns-clause-reached : goal.returns-clause-reached
returns-clause-reached c = (arc_value c.args.roster, [], returns-clause-kept c)
