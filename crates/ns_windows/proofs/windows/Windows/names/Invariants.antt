use Rattle.std.proofs.Common.{◌≡◌, map, take}
use Rattle.std.specs.Map.{values_of}
use Rattle.ns_windows.specs.declared.window.Window.{Window}
use Rattle.ns_windows.specs.Places.{open_of}
use Rattle.ns_windows.proofs.windows.Windows.names.Given as goal

-- the names so far are those of the windows at the places so far
abbrev pub invariant-loop-at : goal.invariant-loop-at
invariant-loop-at l = l.names.items ≡ map (λ (w : Window). w.name) (open_of (take l.at (values_of l.self-inside.names.entries)))
