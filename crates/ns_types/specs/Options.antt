-- Parts that may be missing.
use Rattle.std.specs.Prelude.{Option, option_and_then}

-- the next part, where this one is there
infixl 10 ◌>>=◌
abbrev pub ◌>>=◌ : {A B : Type 0} → Option A → (A → Option B) → Option B
part >>= next = option_and_then next part
