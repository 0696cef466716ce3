-- What a creator leaves in the buffer.
use Rattle.std.specs.Prelude.{ℕ, List, ◌++◌, length, drop}

-- the buffer with the frame at its front, and the bytes behind it as they were
abbrev pub with_front : List ℕ → List ℕ → List ℕ
with_front buf frame = frame ++ drop (length frame) buf
