-- The open windows by name, and their sessions.
use Rattle.std.specs.Prelude.{◌≡◌, ℕ, Bool, List}
use Rattle.std.specs.List.{list_any}
use Rattle.std.specs.HashSet.{contains}
use Rattle.ns_types.specs.Identity.{same_window}
use Rattle.ns_types.specs.declared.identity.DevEui.{DevEui}
use Rattle.ns_types.specs.declared.identity.WindowName.{WindowName}
use Rattle.ns_types.specs.contracts.identity.WindowNamePartialEq.TheImpl as name_eq
use Rattle.ns_keep.specs.declared.windows.OpenWindows.{OpenWindows}
use Rattle.ns_keep.specs.Private.Marks.{same_key, is_of}

abbrev pub is_named : OpenWindows → WindowName → Bool
is_named o w = contains (name_eq.ghosts).eq o.names w

abbrev pub has_session : OpenWindows → DevEui → ℕ → Bool
has_session o eui session = contains same_key o.sessions (eui.0, session)

-- the windows are those of these names
pub record IsOf (o : OpenWindows) (names : List WindowName) : Type 0 where
  pub windows : (w : WindowName) → is_named o w ≡ list_any (λ n. same_window n w) names
  pub sessions : (k : ℕ × ℕ) → contains same_key o.sessions k ≡ list_any (λ n. is_of k n) names
