-- The numbers of the faults of a view.
use Rattle.std.specs.Prelude.{ℕ}
use Rattle.ns_views.specs.declared.ViewFault.{ViewFault}
use Rattle.ns_views.specs.declared.ViewFault.TheVariants.{TooShort, Major, FrameType, Options, JoinLength, TooLong}

-- the number behind the letter V
abbrev pub number : ViewFault → ℕ
number TooShort = 1
number Major = 2
number FrameType = 3
number Options = 4
number JoinLength = 5
number TooLong = 6
