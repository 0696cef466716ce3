-- The numbers of the faults.
use Rattle.std.specs.Prelude.{ℕ}
use Rattle.ns_forwarder.specs.declared.fault.ForwarderFault.{ForwarderFault}
use Rattle.ns_forwarder.specs.declared.fault.ForwarderFault.TheVariants.{TooLong, Short, Version, Kind, TooMany, Body, Field, BadCrc, NoCrc, Outside, Downlink, NoMemory}

-- the number behind the letter F; 0 is want of memory
abbrev pub number : ForwarderFault → ℕ
number NoMemory = 0
number TooLong = 1
number Short = 2
number Version = 3
number Kind = 4
number TooMany = 5
number Body = 6
number Field = 7
number BadCrc = 8
number NoCrc = 9
number Outside = 10
number Downlink = 11
