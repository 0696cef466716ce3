-- The numbers of the faults, as a program prints them behind the letter G.
use Rattle.std.specs.Prelude.{ℕ}
use Rattle.ns_link.specs.declared.LinkFault.{LinkFault}
use Rattle.ns_link.specs.declared.LinkFault.TheVariants.{Short, Version, Kind, Length, Frequency, DataRate, Buffer}

abbrev pub number : LinkFault → ℕ
number Short = 1
number Version = 2
number Kind = 3
number Length = 4
number Frequency = 5
number DataRate = 6
number Buffer = 7
