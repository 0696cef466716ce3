use Rattle.std.proofs.Common.{◌≡◌, ℕ, ◌≤◌, List, [], ◌∷◌, length, take, get_or, refl, arith}
use Rattle.ns_secure.proofs.integrity.front.Goals as goal

front_of_four : (bytes : List ℕ) → 4 ≤ length bytes → (get_or bytes 0 0 ∷ get_or bytes 1 0 ∷ get_or bytes 2 0 ∷ get_or bytes 3 0 ∷ []) ≡ take 4 bytes
front_of_four (a ∷ b ∷ c ∷ d ∷ bytes) h = refl
front_of_four bytes h = absurd (omega (arith, h))

pub returns : goal.returns
returns c = front_of_four c.args.code (omega arith)
