-- The basis of GF(2^8) over GF(2) in which the rounds hold the state. Nothing here needs to be believed: proofs tie it to the cipher.
use Rattle.std.specs.Prelude.{ℕ, bit_xor}
use Rattle.ns_aes_cmac.specs.declared.substitution.TheConstants.{OUT_LO, OUT_HI}
use Rattle.ns_aes_cmac.specs.Lookups.{by_halves}

-- a byte of a state, out of the basis
unfoldable pub from_basis : ℕ → ℕ
from_basis b = by_halves OUT_LO OUT_HI b

-- a byte of a round key, out of the basis
unfoldable pub key_from_basis : ℕ → ℕ
key_from_basis b = bit_xor (from_basis b) 0x63
