-- How a rule with several cases is told: the first case that holds decides.
use Rattle.std.specs.Prelude.{Bool, List, [], ◌∷◌, Option, None, Some, if◌then◌else◌}

-- x, where the test holds
abbrev pub when : {X : Type 0} → Bool → X → Option X
when b x = if b then Some x else None

-- the first case that holds, or else the last resort
abbrev pub first_case : {X : Type 0} → List (Option X) → X → X
first_case [] otherwise = otherwise
first_case (None ∷ cases) otherwise = first_case cases otherwise
first_case (Some x ∷ cases) otherwise = x

-- the first case that holds, if any
abbrev pub first_of : {X : Type 0} → List (Option X) → Option X
first_of [] = None
first_of (None ∷ cases) = first_of cases
first_of (Some x ∷ cases) = Some x
