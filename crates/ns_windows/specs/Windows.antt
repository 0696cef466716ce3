-- Open windows as a list, in the order of their opening.
use Rattle.std.specs.Prelude.{◌≡◌, ℕ, ◌+◌, Bool, false, not, ◌==◌, nat_lt, List, [], ◌∷◌, ◌++◌, length, map, filter, find, count_by, Option, None, Some, bytes_eq, if◌then◌else◌}
use Rattle.std.specs.List.{AllByRecursion}
use Rattle.std.specs.Option.{option_map_or}
use Rattle.ns_types.specs.declared.identity.DevEui.{DevEui}
use Rattle.ns_types.specs.declared.identity.WindowName.{WindowName}
use Rattle.ns_types.specs.declared.identity.Key.{Key}
use Rattle.ns_types.specs.declared.heard.Heard.{Heard}
use Rattle.ns_types.specs.Identity.{same_window}
use Rattle.ns_calls.specs.Entries.{most_copies}
use Rattle.ns_windows.specs.declared.window.Window.{Window}
use Rattle.ns_windows.specs.declared.window.Addition.{Addition}
use Rattle.ns_windows.specs.declared.window.Addition.TheVariants.{Copied, Crowded}
use Rattle.ns_windows.specs.declared.window.Added.{Added}
use Rattle.ns_windows.specs.declared.window.Added.TheVariants as to_name

abbrev pub is_named : WindowName → Window → Bool
is_named name w = same_window w.name name

abbrev pub is_of : List ℕ → Window → Bool
is_of frame w = bytes_eq w.frame frame

-- the window of a name, and the window of a frame
abbrev pub window_named : WindowName → List Window → Option Window
window_named name windows = find (is_named name) windows

abbrev pub window_of_frame : List ℕ → List Window → Option Window
window_of_frame frame windows = find (is_of frame) windows

-- how many windows are of a device
abbrev pub count : DevEui → List Window → ℕ
count eui windows = count_by (λ w. w.name.eui.0 == eui.0) windows

-- a window with its first copy, and the keys of its session
abbrev pub new_window : List ℕ → Heard → WindowName → Key × Option Key → Window
new_window frame heard name keys = record { name = name; frame = frame; copies = record { items = heard ∷ [] }; nwk = keys.0; app = keys.1 }

-- a window with one copy more, where it has room for it
abbrev pub with_copy : Heard → Window → Window
with_copy heard w = if nat_lt (length w.copies.items) most_copies then record w { copies = record { items = w.copies.items ++ heard ∷ [] } } else w

-- the windows, where the one of a name has one copy more
abbrev pub with_copy_in : WindowName → Heard → List Window → List Window
with_copy_in name heard windows = map (λ w. if is_named name w then with_copy heard w else w) windows

-- what comes of a copy for a window: the copy's place, from 1 on
abbrev pub addition : Window → Addition
addition w = if nat_lt (length w.copies.items) most_copies then Copied w.name (length w.copies.items + 1) else Crowded w.name

-- what comes of a copy for the window of a name, if there is one
abbrev pub added : Option Window → Added
added None = to_name.NoWindow
added (Some w) = if nat_lt (length w.copies.items) most_copies then to_name.Copied (length w.copies.items + 1) else to_name.Crowded

-- the windows, where the one of a name, if there is one, has one copy more
abbrev pub with_copy_named : WindowName → Heard → List Window → List Window
with_copy_named name heard windows = option_map_or (λ w. with_copy_in w.name heard windows) (window_named name windows) windows

-- the windows, where the one of a frame has one copy more
abbrev pub with_copy_of : List ℕ → Heard → List Window → List Window
with_copy_of frame heard windows = option_map_or (λ w. with_copy_in w.name heard windows) (window_of_frame frame windows) windows

-- the windows but for the one of a name
abbrev pub without : WindowName → List Window → List Window
without name windows = filter (λ w. not (is_named name w)) windows

-- no two of a list pass a test together
abbrev pub NoTwo : {X : Type 0} → (X → X → Bool) → List X → Type 0
NoTwo test [] = Unit {0}
NoTwo test (x ∷ xs) = AllByRecursion (λ y. test x y ≡ false) xs × NoTwo test xs

-- no two windows have one name
abbrev pub AreApart : List Window → Type 0
AreApart = NoTwo (λ w v. is_named w.name v)

-- no two windows have one frame
abbrev pub AreOfFrames : List Window → Type 0
AreOfFrames = NoTwo (λ w v. is_of w.frame v)
