-- The two bytes by which a TX_ACK names its downlink.
use Rattle.std.specs.Prelude.{ℕ, ◌==◌, ◌/◌, ◌%◌, List, [], ◌∷◌, if◌then◌else◌}

-- the low 16 bits of how many were sent; version 1 has none
abbrev pub token_of : ℕ → ℕ → List ℕ
token_of version count = if version == 1 then 0 ∷ 0 ∷ [] else count / 256 % 256 ∷ count % 256 ∷ []
