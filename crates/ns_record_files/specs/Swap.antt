-- Fewer steps that take the place of those of a record, and what a crash leaves under their name.
use Rattle.std.specs.Prelude.{◌≡◌, ℕ, Bool, true, false, List, ◌∷◌, ◌++◌, Option, None, Some, ◌⊎◌, All}
use Rattle.ns_record_files.specs.Disk.{IsFront}

-- A folder at a moment: the old steps, which no crash takes away; the new ones as they were written, and what of them no crash takes
-- away; whether the name was given to the new ones, and whether that no crash takes back.
pub record Folder : Type 0 where
  pub old : List ℕ
  pub new : List ℕ
  pub safe : List ℕ
  pub is_named : Bool
  pub is_lasting : Bool

-- the folder now and at each moment before, the latest first
pub record Turns : Type 0 where
  pub now : Folder
  pub before : List Folder

abbrev pub all_turns : Turns → List Folder
all_turns ts = ts.now ∷ ts.before

-- one moment more
abbrev pub turns : (Folder → Folder) → Turns → Turns
turns change ts = record { now = change ts.now; before = ts.now ∷ ts.before }

abbrev pub new_safe : Folder → Folder
new_safe f = record f { safe = f.new }

abbrev pub named : Folder → Folder
named f = record f { is_named = true }

abbrev pub lasting : Folder → Folder
lasting f = record f { is_lasting = f.is_named }

-- What a crash at a moment may leave under the name: the old steps, until the new ones have it for good; once these have it, a front of
-- them with all that is safe.
abbrev pub MayBeNamed : Folder → List ℕ → Type 0
MayBeNamed f text = ((f.is_lasting ≡ false) × (text ≡ f.old)) ⊎ ((f.is_named ≡ true) × IsFront f.safe text × IsFront text f.new)

-- a crash leaves all of the old steps, or all of the new ones
abbrev pub IsOneOrTheOther : List ℕ → List ℕ → Folder → Type 0
IsOneOrTheOther old new f = (text : List ℕ) → MayBeNamed f text → (text ≡ old) ⊎ (text ≡ new)

-- From one moment to a later one: at each between, a crash leaves all of the old steps, or all of the new ones.
pub record Swaps (old new : Turns) : Type 0 where
  pub later : List Folder
  pub moments : all_turns new ≡ later ++ all_turns old
  pub each : All (IsOneOrTheOther old.now.old old.now.new) later

-- the same, where the moments are told and the old steps still have the name
abbrev pub SwapsKnown : Option Turns → Option Turns → Type 0
SwapsKnown None new = new ≡ None
SwapsKnown (Some old) new = (ts : Turns) × (new ≡ Some ts) × (old.now.is_named ≡ false → Swaps old ts)

-- the new steps have the name for good
abbrev pub IsSwapped : Option Turns → Option Turns → Type 0
IsSwapped None new = new ≡ None
IsSwapped (Some old) new = (ts : Turns) × (new ≡ Some ts) × ((text : List ℕ) → MayBeNamed ts.now text → text ≡ old.now.new)
