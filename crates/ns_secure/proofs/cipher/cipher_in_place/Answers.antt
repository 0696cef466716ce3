use Rattle.std.proofs.Common.{◌≡◌, ℕ, List, ◌+◌, ◌-◌, ◌*◌, ◌/◌, ◌∙◌, length, refl, ap, arith}
use Rattle.std.proofs.lemmas.Slice.{between_to_end}
use borrow.Rule.Slice.PartMut.{put_mid}
use Rattle.ns_aes_cmac.specs.Aes.{aes}
use Rattle.ns_secure.specs.Cipher.{cipher}
use Rattle.ns_secure.proofs.KeyStream.{none_enciphered, more_enciphered, all_enciphered}
use Rattle.ns_secure.proofs.cipher.cipher_in_place.Goals as goal

pub loop-pair-init : goal.loop-pair-init
loop-pair-init c = none_enciphered c.new-aes.result c.args.dir c.args.addr.0 c.args.counter c.args.payload.now

pub loop-pair-preserved : goal.loop-pair-preserved
loop-pair-preserved c =
    let key = c.new-aes.result in
    let at = 32 * c.loop-pair.pair in
    let before = c.loop-pair.payload in
    let between = put_mid at (length before - at) before c.xor_block.new.bytes in
    let one = more_enciphered key c.args.dir c.args.addr.0 c.args.counter c.args.payload.now before (2 * c.loop-pair.pair) c.encrypt_two.result.0 _ c.xor_block.new.bytes at (length before - at) (2 * c.loop-pair.pair + 1) c.loop-pair.invariant (omega arith) refl (omega arith) (omega arith) (c.encrypt_two.ensures.first ∙ ap (aes key) c.a.ensures) (omega arith) (between_to_end before at (length before) (omega arith)) c.xor_block.ensures in
    let last : 2 * (c.loop-pair.pair + 1) ≡ 2 * c.loop-pair.pair + 1 + 1 = omega arith in
    let two = more_enciphered key c.args.dir c.args.addr.0 c.args.counter c.args.payload.now between (2 * c.loop-pair.pair + 1) c.encrypt_two.result.1 _ c.xor_block-in-loop-pair.new.bytes (at + 16) (length between - (at + 16)) (2 * c.loop-pair.pair + 1 + 1) one (omega arith) refl (omega arith) (omega arith) (c.encrypt_two.ensures.second ∙ ap (aes key) c.a-in-loop-pair.ensures) (omega arith) (between_to_end between (at + 16) (length between) (omega arith)) c.xor_block-in-loop-pair.ensures in
    rw last two

pub returns-then-count-eq1 : goal.returns-then-count-eq1
returns-then-count-eq1 c =
    let key = c.new-aes.result in
    let blocks = c.div_ceil-count.result in
    let at = 16 * (blocks - 1) in
    let before = c.loop-pair.payload in
    let count : blocks ≡ (length c.args.payload.now + 15) / 16 = omega (arith, c.div_ceil-count.ensures) in
    all_enciphered key c.args.dir c.args.addr.0 c.args.counter c.args.payload.now _ blocks (more_enciphered key c.args.dir c.args.addr.0 c.args.counter c.args.payload.now before (2 * c.loop-pair.pair) c.encrypt-last.result _ c.xor_block-then-count-eq1.new.bytes at (length before - at) blocks c.loop-pair.invariant (omega arith) (omega arith) (omega arith) (omega arith) (c.encrypt-last.ensures ∙ ap (aes key) c.a-then-count-eq1.ensures) (omega arith) (between_to_end before at (length before) (omega arith)) c.xor_block-then-count-eq1.ensures) count ∙ ap (λ (k : List ℕ). cipher k c.args.dir c.args.addr.0 c.args.counter c.args.payload.now) c.new-aes.ensures
