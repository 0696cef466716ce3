-- Bytes that were read of a stream and not given.
use Rattle.std.specs.Prelude.{◌≡◌, ℕ, ◌≤◌, List, [], ◌++◌, length, Option, Result, Ok, Err}
use Rattle.std.specs.Io.KnownBytes.{Consumes, Keeps, IsAtEnd}

-- those that are to be given as they are, and those behind them
pub record HeldBytes : Type 0 where
  pub ready : List ℕ
  pub unread : List ℕ

-- none is ready
abbrev pub unready : List ℕ → HeldBytes
unready bytes = record { ready = []; unread = bytes }

-- a read added a piece of at most so many bytes, none only at the end, or failed and added none
abbrev pub Fills : Option (List ℕ) → Option (List ℕ) → HeldBytes → HeldBytes → ℕ → {E : Type 0} → Result ℕ E → Type 0
Fills left more old new most (Ok n) =
    (piece : List ℕ) × (new ≡ unready (old.unread ++ piece)) × Consumes left more piece
    × (length piece ≡ n) × (n ≤ most) × (n ≡ 0 → IsAtEnd more)
Fills left more old new most (Err e) = (new ≡ old) × Keeps left more
