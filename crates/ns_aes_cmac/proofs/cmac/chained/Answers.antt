use Rattle.std.proofs.Common.{◌≡◌, ◌+◌, ap, ◌∙◌, refl, ℕ, add-one, bit_xor, List}
use lib.Lanes.{zip2}
use Rattle.ns_aes_cmac.specs.Aes.{aes, xor_bytes}
use Rattle.ns_aes_cmac.specs.Cmac.{block}
use Rattle.ns_aes_cmac.specs.CmacState.{chained_from}
use Rattle.ns_aes_cmac.proofs.Mix.{zip2_xor}
use Rattle.ns_aes_cmac.proofs.cmac.chained.Goals as goal

next : (key x m chain r : List ℕ) (i : ℕ) → chain ≡ chained_from key x m i → r ≡ aes key (zip2 bit_xor chain (block m i)) → r ≡ chained_from key x m (i + 1)
unfolding chained_from
next key x m chain r i e f = rw add-one (f ∙ ap (aes key) (zip2_xor chain (block m i) ∙ ap (λ c. xor_bytes c (block m i)) e))

pub loop-i-init : goal.loop-i-init
unfolding chained_from
loop-i-init c = refl

pub loop-i-preserved : goal.loop-i-preserved
loop-i-preserved c = next c.args.cipher.now c.args.chain c.args.blocks.now c.loop-i.chain c.encrypt_vector-chain.result c.loop-i.i c.loop-i.invariant c.encrypt_vector-chain.ensures
