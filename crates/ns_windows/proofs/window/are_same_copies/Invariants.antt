use Rattle.std.proofs.Common.{◌≡◌, take}
use Rattle.ns_windows.proofs.window.are_same_copies.Given as goal

-- the first copies are the same
abbrev pub invariant-loop-place : goal.invariant-loop-place
invariant-loop-place l = take l.place l.copies ≡ take l.place l.others
