use Rattle.std.proofs.Common.{◌≡◌, ◌+◌, ◌-◌, ◌≤◌, length, take, ap, ◌∙◌, arith}
use Rattle.std.proofs.lemmas.List.{length-take-le}
use Rattle.std.proofs.lemmas.Slice.{drop-put_mid}
use Rattle.ns_aes_cmac.specs.CmacState.{CmacState}
use Rattle.ns_aes_cmac.proofs.Pieces.{still_zero}
use Rattle.ns_aes_cmac.proofs.cmac.LentCmac.keep.Goals as goal

pub invariant_of-self : goal.invariant_of-self
invariant_of-self c =
    let p = c.self.inside.pending in
    let len = c.self.inside.len in
    let n = length c.args.bytes.now in
    let long : length p ≡ 16 = c.self.told.2 in
    let below : len ≤ 16 = c.self.invariant.0 in
    let held : length (take len p) ≡ length c.args.self.now.pending = ap (λ (s : CmacState). length s.pending) c.self.view_is in
    let room : length c.args.self.now.pending + n ≤ 16 = c.requires in
    let size : length (take len p) ≡ len = length-take-le len p (omega arith) in
    let fits : len + n ≤ 16 = omega arith in (
      fits,
      drop-put_mid len (len + n - len) p c.copy_from_slice.new.self (len + n) (omega arith) (omega arith) (omega (arith, c.copy_from_slice.ensures)) ∙ still_zero p len n c.self.invariant.1,
      c.self.invariant.2,
    )
