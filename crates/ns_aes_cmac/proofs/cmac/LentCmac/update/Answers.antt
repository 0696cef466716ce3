use Rattle.std.proofs.Common.{◌≡◌, ◌≤◌, ◌<◌, ◌+◌, ◌-◌, ◌*◌, ◌/◌, ℕ, List, length, take, ap, ◌∙◌, arith, ◌++◌}
use Rattle.std.proofs.lemmas.List.{length-take-le}
use Rattle.ns_aes_cmac.specs.CmacState.{CmacState}
use Rattle.ns_aes_cmac.proofs.Pieces.{short, long}
use Rattle.ns_aes_cmac.proofs.cmac.LentCmac.update.Goals as goal

pub returns-then-bytes-room-clause-state : goal.returns-then-bytes-room-clause-state
returns-then-bytes-room-clause-state c key m e =
    let p = c.self.inside.pending in
    let len = c.self.inside.len in
    let whole : length p ≡ 16 = c.self.told.2 in
    let below : len ≤ 16 = c.self.invariant.0 in
    let size : length (take len p) ≡ len = length-take-le len p (omega arith) in
    let held : length (take len p) ≡ length c.args.self.now.pending = ap (λ (s : CmacState). length s.pending) c.self.view_is in
    let room : length c.args.bytes.now ≤ 16 - len = c.if-bytes-room.true in
    short key m c.args.bytes.now c.args.self.now c.keep.new.self e c.keep.ensures (omega arith)

pub returns-else-bytes-room-clause-state : goal.returns-else-bytes-room-clause-state
returns-else-bytes-room-clause-state c key m e =
    let p = c.self.inside.pending in
    let len = c.self.inside.len in
    let whole : length p ≡ 16 = c.self.told.2 in
    let below : len ≤ 16 = c.self.invariant.0 in
    let size : length (take len p) ≡ len = length-take-le len p (omega arith) in
    let held : length (take len p) ≡ length c.args.self.now.pending = ap (λ (s : CmacState). length s.pending) c.self.view_is in
    let more : 16 - len < length c.args.bytes.now = c.if-bytes-room.false in
    let front = c.split_at.result.0.now in
    let rest = c.split_at.result.1.now in
    let blocks = c.split_at-else-bytes-room.result.0.now in
    let last = c.split_at-else-bytes-room.result.1.now in
    let front_len : length front ≡ 16 - len = c.split_at.ensures.front_len in
    let rest_len : length rest + (16 - len) ≡ length c.args.bytes.now = c.split_at.ensures.back_len in
    let blocks_len : length blocks ≡ (length rest - 1) / 16 * 16 = c.split_at-else-bytes-room.ensures.front_len in
    let last_len : length last + (length rest - 1) / 16 * 16 ≡ length rest = c.split_at-else-bytes-room.ensures.back_len in
    let parts : c.args.bytes.now ≡ front ++ (blocks ++ last) = c.split_at.ensures.by_index.0 ∙ ap (λ (l : List ℕ). front ++ l) c.split_at-else-bytes-room.ensures.by_index.0 in
    long key m front blocks last c.args.bytes.now c.args.self.now c.keep-else-bytes-room.new.self c.take_pending.new.self c.take_blocks.new.self c.keep-else-bytes-room-2.new.self
    e parts c.keep-else-bytes-room.ensures (omega arith) c.take_pending.ensures c.take_blocks.ensures c.keep-else-bytes-room-2.ensures
    (omega arith) (omega arith) (omega arith)
