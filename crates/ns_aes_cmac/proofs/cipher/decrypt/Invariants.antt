use Rattle.std.proofs.Common.{◌≡◌, ◌∷◌, [], ◌++◌, ℕ, List, map, drop, reverse}
use Rattle.ns_aes_cmac.specs.Aes.{unaes, inverse_rounds, round_keys}
use Rattle.ns_aes_cmac.specs.RoundKeys.{round_key, in_order}
use Rattle.ns_aes_cmac.proofs.cipher.decrypt.Given as goal

-- the inverse rounds that are left give the deciphered block
abbrev pub invariant-loop-i : goal.invariant-loop-i
invariant-loop-i l = (key : List ℕ) → in_order l.keys ≡ key ∷ round_keys key → inverse_rounds (drop l.i (reverse (map round_key l.keys.between)) ++ l.keys.first ∷ []) l.v ≡ unaes key l.fn.block
