use Rattle.std.proofs.Common.{◌≡◌, [], false}
use Rattle.ns_responses.specs.Reading.{Gives, has_failed_of, steps_left}
use Rattle.ns_responses.proofs.responses.Responses.settle.Given as goal

abbrev pub invariant-loop-self : goal.invariant-loop-self
invariant-loop-self g l = record {
  gives : Gives g.S.Source.left l.initial.self l.self [];
  sound : has_failed_of g.S.Stream.has_failed l.self ≡ false;
}

abbrev pub decreases-loop-self : goal.decreases-loop-self
decreases-loop-self g l = steps_left l.self
