-- The time that a log line begins with.
use Rattle.std.specs.Prelude.{◌≡◌, ℕ, List, pos, false, Some}
use Rattle.std.specs.Duration.{as_nanos}
use Rattle.std.specs.declared.time.Duration.{Duration}
use Rattle.jiff_core.specs.declared.timestamp.Timestamp.{Timestamp}
use Rattle.jiff_fmt.specs.declared.temporal.printer.DateTimePrinter.{DateTimePrinter}
use Rattle.jiff_fmt.specs.Printer.{options, IsTimestampText}

-- the text is that of the instant this long after the beginning of 1970, in UTC, in ISO 8601 with three places of a fraction
abbrev pub IsTimeText : Duration → List ℕ → Type 0
IsTimeText since text =
    (printer : DateTimePrinter) × (options printer ≡ (false, 84, Some 3))
    × (t : Timestamp) × (t.nanosecond ≡ pos (as_nanos since)) × IsTimestampText printer t text
