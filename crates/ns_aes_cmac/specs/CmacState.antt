-- A CMAC in progress, as contracts see it.
use Rattle.std.specs.Prelude.{ℕ, zero, suc, ◌-◌, List}
use Rattle.ns_aes_cmac.specs.Aes.{aes, xor_bytes}
use Rattle.ns_aes_cmac.specs.Cmac.{block_count, block, chained}

-- the key, X after the blocks taken so far, and the bytes not taken yet
pub record CmacState : Type 0 where
  pub key : List ℕ
  pub chain : List ℕ
  pub pending : List ℕ

-- the state under key once the message m has come: each block is taken but the last one
unfoldable pub state_of : List ℕ → List ℕ → CmacState
state_of key m =
    let n = block_count m - 1 in
    record { key = key; chain = chained key m n; pending = block m n }

-- X after n blocks of a message, begun from x
unfoldable pub chained_from : List ℕ → List ℕ → List ℕ → ℕ → List ℕ
chained_from key x m zero = x
chained_from key x m (suc n) = aes key (xor_bytes (chained_from key x m n) (block m n))
