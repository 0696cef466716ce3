-- The eleven keys of the cipher, from how the code holds them.
use Rattle.std.specs.Prelude.{ℕ, List, [], ◌∷◌, ◌++◌, map}
use Rattle.ns_aes_cmac.specs.declared.key_schedule.RoundKeys.{RoundKeys}
use Rattle.ns_aes_cmac.specs.declared.key_schedule.RoundKey.{RoundKey}
use Rattle.ns_aes_cmac.specs.Basis.{key_from_basis}

-- a round key out of the basis of the rounds
abbrev pub round_key : RoundKey → List ℕ
round_key k = map key_from_basis k.bytes

-- the keys in the order of the rounds
abbrev pub in_order : RoundKeys → List (List ℕ)
in_order k = k.first ∷ (map round_key k.between ++ k.last ∷ [])
