use Rattle.std.proofs.Common.{◌≡◌, ◌≤◌, length, take}
use Rattle.std.specs.Map.{values_of}
use Rattle.ns_windows.specs.Places.{open_of}
use Rattle.ns_windows.proofs.places.is_sparse.Given as goal

-- as many windows as are at the places so far
abbrev pub invariant-loop-at : goal.invariant-loop-at
invariant-loop-at l = (l.windows ≤ l.at) × (l.windows ≡ length (open_of (take l.at (values_of l.names.entries))))
