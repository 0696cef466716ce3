-- Texts that stand one behind the other.
use Rattle.std.specs.Prelude.{ℕ, List, [], ◌∷◌, ◌++◌}
use Rattle.std.specs.Borrow.{Bor}

-- parts, one behind the other
abbrev pub parts_text : List (Bor (List ℕ)) → List ℕ
parts_text [] = []
parts_text (part ∷ parts) = part.now ++ parts_text parts
