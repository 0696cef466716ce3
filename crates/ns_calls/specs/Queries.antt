-- How a list is asked: by its first and last element, by its maximum, by what was opened and not ended since.
use Rattle.std.specs.Prelude.{ℕ, max, Bool, List, [], ◌∷◌, Option, None, Some, if◌then◌else◌}
use Rattle.std.specs.List.{list_any}
use Rattle.std.specs.Option.{option_or}

-- the first element, and the last
abbrev pub first : {X : Type 0} → List X → Option X
first [] = None
first (x ∷ xs) = Some x

abbrev pub last : {X : Type 0} → List X → Option X
last [] = None
last (x ∷ xs) = option_or (last xs) (Some x)

-- the greater of two numbers, either of which may be missing
abbrev pub greater : Option ℕ → Option ℕ → Option ℕ
greater None b = b
greater (Some a) None = Some a
greater (Some a) (Some b) = Some (max a b)

-- the greatest element
abbrev pub maximum : List ℕ → Option ℕ
maximum [] = None
maximum (n ∷ ns) = greater (Some n) (maximum ns)

-- the elements from the last one on that passes the test
abbrev pub from_last : {E : Type 0} → (E → Bool) → List E → List E
from_last test [] = []
from_last test (x ∷ xs) = if list_any test xs then from_last test xs else (if test x then x ∷ xs else [])
