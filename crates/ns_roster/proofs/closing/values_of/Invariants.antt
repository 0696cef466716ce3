use Rattle.std.proofs.Common.{take}
use Rattle.ns_roster.specs.Closing.{devices_with}
use Rattle.ns_roster.proofs.ClosingLemmas.{AreValues}
use Rattle.ns_roster.proofs.closing.values_of.Given as goal

-- the values so far are those of the devices so far
abbrev pub invariant-loop-place : goal.invariant-loop-place
invariant-loop-place l = AreValues l.values.items (take l.place (devices_with l.devices l.nonces))
