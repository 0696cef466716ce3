-- What a taker has taken, where it tells it.
use Rattle.std.specs.Prelude.{◌≡◌, List, ◌++◌, Option, Some, IfSome}

-- it grows by these
abbrev pub Grows : {X : Type 0} → Option (List X) → Option (List X) → List X → Type 0
Grows old new more = IfSome old (λ xs. new ≡ Some (xs ++ more))
