use Rattle.std.proofs.Common.{◌≡◌, ◌++◌, length, map, take, drop}
use Rattle.ns_aes_cmac.specs.Aes.{round_constants, round_keys_by, round_keys}
use Rattle.ns_aes_cmac.specs.Basis.{from_basis}
use Rattle.ns_aes_cmac.specs.RoundKeys.{round_key}
use Rattle.ns_aes_cmac.proofs.key_schedule.expand.Given as goal

-- the first i round keys are made, and the others come of the i-th
abbrev pub invariant-loop-i : goal.invariant-loop-i
invariant-loop-i l = (length l.keys.between ≡ 9) × (l.keys.first ≡ l.key) × (map round_key (take l.i l.keys.between) ++ round_keys_by (drop l.i round_constants) (map from_basis l.next) ≡ round_keys l.key)
