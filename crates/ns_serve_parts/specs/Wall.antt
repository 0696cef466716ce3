-- The moments of a wall clock.
use Rattle.std.specs.Prelude.{◌≡◌, ◌/◌, pos}
use Rattle.std.specs.Duration.{as_nanos}
use Rattle.std.specs.declared.time.Duration.{Duration}
use Rattle.jiff_core.specs.declared.civil.datetime.DateTime.{DateTime}
use Rattle.jiff_core.specs.DateTime.{civil_nanos}
use Rattle.ns_output.specs.declared.times.Utc.{Utc}

-- a moment shows a date and a time of day, to the millisecond
pub record Shows (dt : DateTime) (t : Utc) : Type 0 where
  pub year : dt.date.year ≡ pos t.year
  pub month : t.month ≡ dt.date.month
  pub day : t.day ≡ dt.date.day
  pub hour : t.hour ≡ dt.time.hour
  pub minute : t.minute ≡ dt.time.minute
  pub second : t.second ≡ dt.time.second
  pub millisecond : t.millisecond ≡ dt.time.subsec_nanosecond / 1000000

-- it is the one this long after the beginning of 1970
abbrev pub IsUtcOf : Duration → Utc → Type 0
IsUtcOf since t = (dt : DateTime) × (civil_nanos dt ≡ pos (as_nanos since)) × Shows dt t
