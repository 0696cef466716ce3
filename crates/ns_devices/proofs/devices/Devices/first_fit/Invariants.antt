use Rattle.std.proofs.Common.{◌≡◌, drop}
use Rattle.ns_sessions.specs.Recovery.{recovery_counter}
use Rattle.ns_devices.specs.Places.{first_fit_at}
use Rattle.ns_devices.proofs.devices.Devices.first_fit.Given as goal

abbrev pub invariant-loop-place : goal.invariant-loop-place
invariant-loop-place l = first_fit_at (recovery_counter l.recovery) l.frame (drop l.place-index l.places) l.self ≡ first_fit_at (recovery_counter l.recovery) l.frame l.places l.self
