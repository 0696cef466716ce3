use Rattle.std.proofs.Common.{◌≡◌, length}
use Rattle.ns_windows.specs.Places.{open_of}
use Rattle.ns_windows.proofs.iter.OpenWindowsIterator.next.Given as goal

-- the places so far are empty
abbrev pub invariant-places : goal.invariant-places
invariant-places l = open_of l.self-inside.places ≡ open_of l.initial.self-inside.places

abbrev pub decreases-places : goal.decreases-places
decreases-places l = length l.self-inside.places
