-- Lines as they are read.
use Rattle.std.specs.Prelude.{◌≡◌, ℕ, ◌+◌, Bool, List, [], ◌∷◌, ◌++◌, length, Option, if◌then◌else◌}
use Rattle.std.specs.Io.KnownBytes.{Consumes}
use Rattle.ns_aes_cmac.specs.CmacState.{state_of}
use Rattle.ns_checkpoint.specs.Text.{sum_key, lines_text}
use Rattle.ns_checkpoint.specs.declared.read.Reading.{Reading}

-- the line feed after a whole line
abbrev pub feed_of : Bool → List ℕ
feed_of whole = if whole then 10 ∷ [] else []

-- some bytes of a line were read, and its line feed if it is whole
pub record IsPart (old new : Option (List ℕ)) (before after : List ℕ) (whole : Bool) : Type 0 where
  pub part : List ℕ
  pub appended : after ≡ before ++ part
  pub consumed : Consumes old new (part ++ feed_of whole)

-- these lines were read, counted, and added to the sum
pub record HasRead (old new : Option (List ℕ)) (before after : Reading) (lines : List (List ℕ)) : Type 0 where
  pub bytes : Consumes old new (lines_text lines)
  pub number : after.number ≡ before.number + length lines
  pub sum : (text : List ℕ) → before.mac ≡ state_of sum_key text → after.mac ≡ state_of sum_key (text ++ lines_text lines)
