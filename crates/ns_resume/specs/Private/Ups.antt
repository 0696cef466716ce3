-- The `up` lines as they are read.
use Rattle.std.specs.Prelude.{ℕ, List, ◌++◌, Option}
use Rattle.std.specs.Io.KnownBytes.{Consumes}
use Rattle.ns_resume.specs.Resumed.{AreUps}
use Rattle.ns_resume.specs.declared.ups.Ups.{Ups}

-- some bytes were read behind those that are there, and beside these lines this is missing
abbrev pub GoOn : Option (List ℕ) → Option (List ℕ) → List ℕ → List ℕ → Ups → Type 0
GoOn old new there ups u = (bytes : List ℕ) × Consumes old new bytes × AreUps (there ++ bytes) ups u.missing.items u.torn
