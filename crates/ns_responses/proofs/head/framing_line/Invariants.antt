use Rattle.std.proofs.Common.{◌-◌, length}
use Rattle.ns_responses.proofs.HeadLemmas.{Framed}
use Rattle.ns_responses.proofs.head.framing_line.Given as goal

abbrev pub invariant-loop-at : goal.invariant-loop-at
invariant-loop-at l = Framed l.head l.at l.found

abbrev pub decreases-loop-at : goal.decreases-loop-at
decreases-loop-at l = length l.head - l.at
