-- The window in which a frame fits.
use Rattle.std.proofs.Common.{◌≡◌, ℕ, List, Some, IfSome, arith, Bool, Option, option_map}
use Rattle.std.proofs.lemmas.Bool.Decides.{nat_tests}
use Rattle.ns_views.specs.Frame.{data_fields}
use Rattle.ns_secure.specs.Counter.{Exceeds, above}
use Rattle.ns_calls.proofs.UplinkLemmas.{above-exceeds}
use Rattle.ns_sessions.specs.declared.session.Session.{Session}
use Rattle.ns_sessions.specs.declared.device.DeviceState.TheInside.{Inside}
use Rattle.ns_sessions.specs.State.{record_of}
use Rattle.ns_sessions.specs.Record.{session_in, session_fit, IsNewCounter}
use Rattle.std.specs.Option.{option_and_then}
use Rattle.ns_types.specs.Cases.{when}
use Rattle.ns_secure.specs.Integrity.{mic_fits}

-- the window is of the session, and its counter is above the greatest there
abbrev pub IsNewIn : Session → ℕ × ℕ → Type 0
IsNewIn s w = (w.0 ≡ s.number) × Exceeds s.greatest_counter w.1

pub session_fit-new : (frame : List ℕ) (s : Session) → IfSome (session_fit above frame s) (IsNewIn s)
session_fit-new frame s = step (mic_fits frame s.nwk.0) (above s.greatest_counter (data_fields frame).fcnt16) (above-exceeds s.greatest_counter (data_fields frame).fcnt16)
  where
    step : (test : ℕ → Bool) (o : Option ℕ) → IfSome o (λ n. Exceeds s.greatest_counter n) → IfSome (option_map (λ counter. (s.number, counter)) (option_and_then (λ n. when (test n) n) o)) (IsNewIn s)
    step test o exceeds = grind arith

-- what is found where the active session is the window's
found_first : (d : Inside) (s : Session) (w : ℕ × ℕ) → d.active ≡ Some s → IsNewIn s w → IsNewCounter (session_in (record_of d) w.0) w.1
found_first d s w is new = grind (arith, nat_tests)

-- what fits in the active session is new there
pub active_new : (d : Inside) (frame : List ℕ) (s : Session) (w : ℕ × ℕ) → d.active ≡ Some s → session_fit above frame s ≡ Some w → IsNewCounter (session_in (record_of d) w.0) w.1
active_new d frame s w is fit = found_first d s w is (rw fit at (session_fit-new frame s))
