-- The front of a buffer is what was written there, and three bytes are those that were taken one by one.
use Rattle.std.proofs.Common.{◌≡◌, ℕ, List, [], ◌∷◌, ◌++◌, length, take, slice_index_or, refl, arith}
use Rattle.std.proofs.Math.Seq.{take-append_seam}

pub front_is : (size : ℕ) (frame behind : List ℕ) → length frame ≡ size → take size (frame ++ behind) ≡ frame
front_is size frame behind e = rw (← e) (take-append_seam frame behind)

pub three_are : (xs behind : List ℕ) → length xs ≡ 3 → slice_index_or xs 0 0 ∷ slice_index_or xs 1 0 ∷ slice_index_or xs 2 0 ∷ behind ≡ xs ++ behind
three_are [] behind e = absurd (cc e)
three_are (a ∷ []) behind e = absurd (cc e)
three_are (a ∷ b ∷ []) behind e = absurd (cc e)
three_are (a ∷ b ∷ c ∷ []) behind e = refl
three_are (a ∷ b ∷ c ∷ d ∷ xs) behind e = absurd (omega (arith, e))
