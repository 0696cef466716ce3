use Rattle.std.proofs.Common.{ℕ, ◌+◌, ◌-◌, ◌*◌, ◌∙◌, List, length, ap, arith}
use Rattle.ns_aes_cmac.specs.Aes.{aes}
use Rattle.ns_secure.specs.Cipher.{each_block}
use Rattle.ns_secure.proofs.Blocks.{none_changed, more_changed, all_changed}
use Rattle.ns_secure.proofs.join.accept_decipher_in_place.Goals as goal

pub loop-i-init : goal.loop-i-init
loop-i-init c = none_changed (aes c.new-aes.result) c.args.enciphered.now

pub loop-i-preserved : goal.loop-i-preserved
loop-i-preserved c =
    more_changed (aes c.new-aes.result) c.args.enciphered.now c.loop-i.enciphered c.copy_from_slice.new.self c.block_at.result c.loop-i.i (16 * c.loop-i.i + 16 - 16 * c.loop-i.i) c.loop-i.invariant c.block_at.ensures (c.copy_from_slice.ensures.after ∙ c.encrypt-block.ensures) (omega (arith, ap length c.copy_from_slice.ensures.after)) (omega arith)

pub returns : goal.returns
returns c =
    all_changed (aes c.new-aes.result) c.args.enciphered.now c.loop-i.enciphered c.loop-i.i c.loop-i.invariant (omega arith) c.requires ∙ ap (λ (key : List ℕ). each_block (aes key) c.args.enciphered.now) c.new-aes.ensures
