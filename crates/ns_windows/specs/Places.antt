-- Windows by name, each at a place, in the order of their opening, and the name of the window of each frame; for private clauses. A window that was
-- closed leaves its place empty.
use Rattle.std.specs.Prelude.{◌≡◌, ◌≤◌, ◌<◌, ◌+◌, ℕ, suc, ◌==◌, Bool, false, List, [], ◌∷◌, length, Option, Some, None, option_map, IfSome, bytes_eq}
use Rattle.std.specs.List.{slice_index_or, AllByRecursion, IsDistinct}
use Rattle.std.specs.Map.{lookup, keys_of, values_of}
use Rattle.std.specs.Option.{option_map_or}
use Rattle.ns_types.specs.declared.identity.WindowName.{WindowName}
use Rattle.ns_types.specs.Identity.{same_window}
use Rattle.ns_windows.specs.declared.places.Sought.{Sought}
use Rattle.ns_windows.specs.declared.places.Sought.TheVariants.{Name, Frame}
use Rattle.ns_windows.specs.declared.window.Window.{Window}
use Rattle.ns_windows.specs.declared.window.Addition.{Addition}
use Rattle.ns_windows.specs.declared.window.Addition.TheVariants.{Copied, Crowded}
use Rattle.ns_windows.specs.declared.window.Added.{Added}
use Rattle.ns_windows.specs.declared.window.Added.TheVariants as to_name
use Rattle.ns_windows.specs.Windows.{is_named, is_of, window_of_frame, count, AreApart, AreOfFrames}

-- the windows that are open
abbrev pub open_of : List (Option Window) → List Window
open_of [] = []
open_of (None ∷ ps) = open_of ps
open_of (Some w ∷ ps) = w ∷ open_of ps

abbrev pub opened : List (WindowName × Option Window) → List Window
opened entries = open_of (values_of entries)

-- the window at a place
abbrev pub window_at : List (Option Window) → ℕ → Option Window
window_at places place = slice_index_or places place None

-- how many places before the first window are empty
abbrev pub leading : List (Option Window) → ℕ
leading [] = 0
leading (None ∷ ps) = suc (leading ps)
leading (Some w ∷ ps) = 0

-- what came of a copy for the window of a name, as it came of the copy for the window
abbrev pub added_by : Option Addition → Added
added_by None = to_name.NoWindow
added_by (Some (Copied window place)) = to_name.Copied place
added_by (Some (Crowded window)) = to_name.Crowded

-- whether a window is the one that is sought
abbrev pub passes : Sought → Window → Bool
passes (Name name) w = is_named name.now w
passes (Frame frame) w = is_of frame.now w

-- whether the window at a place passes a test
abbrev pub passes_at : (Window → Bool) → ℕ → List (Option Window) → Bool
passes_at test place places = option_map_or test (window_at places place) false

-- each window is at its own name, and no two places have one name
pub record AreNamed (entries : List (WindowName × Option Window)) : Type 0 where
  pub own : AllByRecursion (λ e. IfSome e.1 (λ w. w.name ≡ e.0)) entries
  pub apart : IsDistinct same_window (keys_of entries)

-- With 64 places or more, and no room for another, at least half of the places have a window. So a growth of the places is asked for only
-- where no more of them are empty than have a window.
abbrev pub IsDense : ℕ → List (WindowName × Option Window) → Type 0
IsDense room entries = 64 ≤ length entries → room ≡ 0 → length entries ≤ length (opened entries) + length (opened entries)

-- there are 64 places or more, there is no room for another, and more of them are empty than have a window
abbrev pub IsSparse : ℕ → List (WindowName × Option Window) → Type 0
IsSparse room entries = (64 ≤ length entries) × (room ≡ 0) × (length (opened entries) + length (opened entries) < length entries)

-- No two windows have one name, nor one frame. At the frame of each window is its name, and no other frame is known.
pub record Agree (entries : List (WindowName × Option Window)) (table : List (List ℕ × WindowName)) : Type 0 where
  pub named : AreNamed entries
  pub apart_names : AreApart (opened entries)
  pub apart_frames : AreOfFrames (opened entries)
  pub known : (frame : List ℕ) → lookup (λ k. bytes_eq frame k) table ≡ option_map (λ w. w.name) (window_of_frame frame (opened entries))

-- the number of a device, 0 where it is not known
abbrev pub count_in : List (ℕ × ℕ) → ℕ → ℕ
count_in counts key = option_map_or (λ n. n) (lookup (λ k. key == k) counts) 0

-- the places and the frames agree, the first window is at this place, and each device has so many windows
pub record Holds (entries : List (WindowName × Option Window)) (place : ℕ) (table : List (List ℕ × WindowName)) (numbers : List (ℕ × ℕ)) : Type 0 where
  pub agree : Agree entries table
  pub first : place ≡ leading (values_of entries)
  pub counts : (key : ℕ) → count_in numbers key ≡ count (record { 0 = key }) (opened entries)
