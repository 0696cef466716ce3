use Rattle.std.proofs.Common.{◌≡◌, ◌∷◌, [], ◌++◌, ℕ, List, map, drop}
use Rattle.ns_aes_cmac.specs.Aes.{aes, rounds, round_keys}
use Rattle.ns_aes_cmac.specs.Basis.{from_basis}
use Rattle.ns_aes_cmac.specs.RoundKeys.{round_key, in_order}
use Rattle.ns_aes_cmac.proofs.cipher.encrypt_two.Given as goal

-- the rounds that are left give the enciphered blocks
abbrev pub invariant-loop-i : goal.invariant-loop-i
invariant-loop-i l = (key : List ℕ) → in_order l.keys ≡ key ∷ round_keys key →
    (rounds (drop l.i (map round_key l.keys.between) ++ l.keys.last ∷ []) (map from_basis l.v) ≡ aes key l.fn.first)
    × (rounds (drop l.i (map round_key l.keys.between) ++ l.keys.last ∷ []) (map from_basis l.u) ≡ aes key l.fn.second)
