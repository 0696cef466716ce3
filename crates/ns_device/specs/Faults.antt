-- The number of a refusal.
use Rattle.std.specs.Prelude.{ℕ}
use Rattle.ns_device.specs.declared.fault.DeviceFault.{DeviceFault}
use Rattle.ns_device.specs.declared.fault.DeviceFault.TheVariants.{Length, FrameType, Mic, NoSession, Create}

-- the number behind the letter E
abbrev pub number : DeviceFault → ℕ
number Length = 1
number FrameType = 2
number Mic = 3
number NoSession = 4
number (Create fault) = 5
