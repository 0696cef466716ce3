use Rattle.std.proofs.Common.{◌-◌, length}
use Rattle.ns_responses.specs.Finding.{IsSearchOf}
use Rattle.ns_responses.proofs.section.Search.end_in.Given as goal

abbrev pub invariant-loop-self : goal.invariant-loop-self
invariant-loop-self l = IsSearchOf l.self l.bytes

abbrev pub decreases-loop-self : goal.decreases-loop-self
decreases-loop-self l = length l.bytes - l.self.at
