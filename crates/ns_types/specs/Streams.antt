-- What becomes of the bytes of streams, and the stream over memory.
use Rattle.std.specs.Prelude.{ℕ, ◌-◌, Bool, false, List, ◌++◌, ◌==◌, ◌≡◌, Option, None, Some}
use Rattle.std.specs.Option.{option_map}
use Rattle.std.specs.Io.KnownBytes.{Appends, Consumes}

-- known bytes grow by a front of bs
abbrev pub AppendsFront : Option (List ℕ) → Option (List ℕ) → List ℕ → Type 0
AppendsFront old new bs = (front : List ℕ) × (rest : List ℕ) × (bs ≡ front ++ rest) × Appends old new front

-- known bytes lose a front
abbrev pub ConsumesFront : Option (List ℕ) → Option (List ℕ) → Type 0
ConsumesFront old new = (front : List ℕ) × Consumes old new front

-- A stream over memory: the bytes that it will give and those that it has taken, how many bytes a call of it moves at most, how
-- many reads and how many writes come before the one that fails (None: none fails), and whether it has failed.
pub record FuseState : Type 0 where
  pub left : List ℕ
  pub taken : List ℕ
  pub most : ℕ
  pub reads : Option ℕ
  pub writes : Option ℕ
  pub failed : Bool

-- whether the call that fails is the next one
abbrev pub is_due : Option ℕ → Bool
is_due None = false
is_due (Some calls) = calls == 0

-- the calls before the one that fails, after a call
abbrev pub one_fewer : Option ℕ → Option ℕ
one_fewer calls = option_map (λ n. n - 1) calls
