use Rattle.std.proofs.Common.{◌≡◌, ◌≤◌, ◌+◌, length, drop}
use Rattle.std.specs.Map.{values_of}
use Rattle.ns_windows.specs.Places.{leading}
use Rattle.ns_windows.proofs.places.first_from.Given as goal

-- all places so far are empty
abbrev pub invariant-loop-at : goal.invariant-loop-at
invariant-loop-at l = (l.at ≤ length l.names.entries) × (l.at + leading (drop l.at (values_of l.names.entries)) ≡ l.from + leading (drop l.from (values_of l.names.entries)))
