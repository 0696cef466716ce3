-- A gateway's counter of 32 bits (microseconds, `tmst`), carried on to 64 bits.
use Rattle.std.specs.Prelude.{ℕ, ◌+◌, ◌-◌, ◌%◌, ◌^◌, ◌||◌, nat_lt, Option, None, Some, if◌then◌else◌}
use Rattle.ns_forwarder.specs.declared.clock.Reading.{Reading}
use Rattle.ns_forwarder.specs.declared.clock.Clock.{Clock}

-- where the gateway's clock must be: as much further on as this machine's clock is
abbrev pub expected : Reading → ℕ → ℕ
expected latest now = latest.moment + (now - latest.at)

-- how far a counter of 32 bits is ahead of a number
abbrev pub ahead : ℕ → ℕ → ℕ
ahead counter number = (counter + 2 ^ 32 - number % 2 ^ 32) % 2 ^ 32

-- of the numbers with the counter's 32 bits, the one that is nearest to a number
abbrev pub nearest : ℕ → ℕ → ℕ
nearest counter number =
    if nat_lt (ahead counter number) (2 ^ 31) || nat_lt (number + ahead counter number) (2 ^ 32)
    then number + ahead counter number
    else number + ahead counter number - 2 ^ 32

-- the moment of a counter that is read now, where a reading is known or none
abbrev pub moment_from : Option Reading → ℕ → ℕ → ℕ
moment_from None counter now = counter
moment_from (Some latest) counter now = nearest counter (expected latest now) % 2 ^ 64

abbrev pub moment_at : Clock → ℕ → ℕ → ℕ
moment_at clock counter now = moment_from clock.latest counter now

-- what is known once a counter is read
abbrev pub clock_after : Clock → ℕ → ℕ → Clock
clock_after clock counter now = record { latest = Some (record { moment = moment_at clock counter now; at = now }) }
