-- The number of a refusal.
use Rattle.std.specs.Prelude.{ℕ}
use Rattle.ns_creator.specs.declared.fault.CreateFault.{CreateFault}
use Rattle.ns_creator.specs.declared.fault.CreateFault.TheVariants.{BufferTooShort, OptionsTooLong, PayloadWithoutPort, FrameTooLong}

-- the number behind the letter C
abbrev pub number : CreateFault → ℕ
number (BufferTooShort need) = 1
number OptionsTooLong = 2
number PayloadWithoutPort = 3
number FrameTooLong = 4
