use Rattle.std.proofs.Common.{ℕ, ◌+◌, ◌-◌, ◌*◌, ◌∙◌, List, length, ap, arith}
use Rattle.ns_aes_cmac.specs.Aes.{unaes}
use Rattle.ns_secure.specs.Cipher.{each_block}
use Rattle.ns_secure.proofs.Blocks.{none_changed, more_changed, all_changed}
use Rattle.ns_secure.proofs.join.accept_cipher_in_place.Goals as goal

pub loop-i-init : goal.loop-i-init
loop-i-init c = none_changed (unaes c.new-aes.result) c.args.plain.now

pub loop-i-preserved : goal.loop-i-preserved
loop-i-preserved c =
    more_changed (unaes c.new-aes.result) c.args.plain.now c.loop-i.plain c.copy_from_slice.new.self c.block_at.result c.loop-i.i (16 * c.loop-i.i + 16 - 16 * c.loop-i.i) c.loop-i.invariant c.block_at.ensures (c.copy_from_slice.ensures.after ∙ c.decrypt-block.ensures) (omega (arith, ap length c.copy_from_slice.ensures.after)) (omega arith)

pub returns : goal.returns
returns c =
    all_changed (unaes c.new-aes.result) c.args.plain.now c.loop-i.plain c.loop-i.i c.loop-i.invariant (omega arith) c.requires ∙ ap (λ (key : List ℕ). each_block (unaes key) c.args.plain.now) c.new-aes.ensures
