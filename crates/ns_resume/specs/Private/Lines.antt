-- Lines as they are read.
use Rattle.std.specs.List.{starts_with}
use Rattle.std.specs.Cmp.Lexicographic.{pointwise}
use Rattle.std.specs.Prelude.{◌≡◌, ℕ, nat_eq, Bool, true, false, List, [], ◌∷◌, ◌++◌, Option, None, Some, if◌then◌else◌}
use Rattle.std.specs.Io.KnownBytes.{Consumes}
use Rattle.ns_lines.specs.Text.{has_line_feed}
use Rattle.ns_resume.specs.Resumed.{IsAllOf}

-- the line feed behind a whole line
abbrev pub feed_of : Bool → List ℕ
feed_of whole = if whole then 10 ∷ [] else []

-- the line feed that ended a line, where one did
abbrev pub feed_read : Option Bool → List ℕ
feed_read None = []
feed_read (Some whole) = feed_of whole

-- Some bytes of a line were read, and its line feed where that ended it. Where the source ended it, there was nothing left.
pub record IsPart (old new : Option (List ℕ)) (before after : List ℕ) (ended : Option Bool) : Type 0 where
  pub part : List ℕ
  pub appended : after ≡ before ++ part
  pub no_feed : has_line_feed part ≡ false
  pub consumed : Consumes old new (part ++ feed_read ended)
  pub at_end : ended ≡ Some false → (part ≡ []) × IsAllOf old []

-- whether the part begins the line, and is the line where it is whole
abbrev pub is_front : Bool → List ℕ → List ℕ → Bool
is_front whole part line = if whole then pointwise nat_eq line part else starts_with nat_eq line part

-- the part begins the line, and is the line where it is whole
abbrev pub IsFrontOf : Bool → List ℕ → List ℕ → Type 0
IsFrontOf whole part line = (rest : List ℕ) × (line ≡ part ++ rest) × (whole ≡ true → rest ≡ [])
