use Rattle.std.proofs.Common.{◌-◌, length}
use Rattle.ns_joinclient.specs.Place.{IsScanOf}
use Rattle.ns_joinclient.proofs.scan.Scan.is_inside.Given as goal

abbrev pub invariant-loop-self : goal.invariant-loop-self
invariant-loop-self l = IsScanOf l.self l.bytes

abbrev pub decreases-loop-self : goal.decreases-loop-self
decreases-loop-self l = length l.bytes - l.self.seen
