use Rattle.std.proofs.Common.{◌≡◌, drop}
use Rattle.ns_status.specs.Airtime.{spent_with}
use Rattle.ns_status.proofs.airtime.Airtime.spent.Given as goal

-- what was counted with the slots that are left is the whole
abbrev pub invariant-loop-slot : goal.invariant-loop-slot
invariant-loop-slot l = spent_with l.now l.spent (drop l.slot-index l.self.slots) ≡ spent_with l.now 0 l.self.slots
