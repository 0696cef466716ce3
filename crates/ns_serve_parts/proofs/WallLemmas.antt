-- The moment of an instant.
use Rattle.std.proofs.Common.{◌≡◌, Option, None, Some}
use Rattle.std.specs.Prelude.{IfSome, pos}
use Rattle.std.specs.Duration.{as_nanos}
use Rattle.std.specs.declared.time.Duration.{Duration}
use Rattle.jiff_core.specs.declared.civil.datetime.DateTime.{DateTime}
use Rattle.jiff_core.specs.DateTime.{civil_nanos}
use Rattle.ns_output.specs.declared.times.Utc.{Utc}
use Rattle.ns_serve_parts.specs.Wall.{Shows, IsUtcOf}

pub is_utc : (since : Duration) (dt : DateTime) (o : Option Utc) → civil_nanos dt ≡ pos (as_nanos since) → IfSome o (Shows dt) → IfSome o (IsUtcOf since)
is_utc since dt None same shows = tt
is_utc since dt (Some t) same shows = (dt, same, shows)
