-- Open windows and their copies in words of single entries.
use Rattle.std.specs.Prelude.{◌≡◌, ℕ, false, List, ◌∷◌, ◌++◌, take, filter_map, Option, None, Some, bytes_eq}
use Rattle.std.specs.List.{AllByRecursion}
use Rattle.ns_types.specs.Cases.{when}
use Rattle.ns_types.specs.declared.heard.Heard.{Heard}
use Rattle.ns_calls.specs.declared.answer.Uplink as answer
use Rattle.ns_calls.specs.declared.call.Call.{Call}
use Rattle.ns_calls.specs.declared.call.Call.TheVariants.{Uplink}
use Rattle.ns_calls.specs.declared.call.Entry.{Entry}
use Rattle.ns_calls.specs.Entries.{Opening, says, opened, closes, most_copies}

-- an entry opened the window, and none after it closed it
pub record IsOpenWindow (h : List Entry) (o : Opening) : Type 0 where
  pub before : List Entry
  pub entry : Entry
  pub after : List Entry
  pub is : h ≡ before ++ entry ∷ after
  pub opens : says opened entry ≡ Some o
  pub not_closed : AllByRecursion (λ e. closes o.window e ≡ false) after

-- how a call heard a frame of these bytes, where it did
abbrev pub hearing_in : List ℕ → Call → Option Heard
hearing_in frame (Uplink bytes heard) = when (bytes_eq frame bytes) heard
hearing_in frame _ = None

-- how a frame of these bytes was heard, in order, whatever came of it
abbrev pub hearings : List ℕ → List Entry → List Heard
hearings frame es = filter_map (λ e. hearing_in frame e.call) es

-- The uplink goes out with just its copies: those of the first 16 hearings of its frame since its window was opened.
pub record HasJustItsCopies (h : List Entry) (u : answer.Uplink) : Type 0 where
  pub opening : Opening
  pub window : opening.window ≡ u.window
  pub is_open : IsOpenWindow h opening
  pub copies : u.copies.items ≡ take most_copies (hearings opening.frame (is_open.entry ∷ is_open.after))
