use lib.Lanes.{zip2}
use Rattle.std.proofs.Common.{◌≡◌, ◌≢◌, ◌≤◌, set, ℕ, length, take, replicate, ap, sym, ◌∙◌, arith, bit_xor}
use Rattle.std.proofs.lemmas.List.{length-take-le, take_all}
use Rattle.ns_aes_cmac.specs.Aes.{aes, xor_bytes}
use Rattle.ns_aes_cmac.specs.Cmac.{last_block}
use Rattle.ns_aes_cmac.proofs.Mix.{zip2_xor}
use Rattle.ns_aes_cmac.proofs.Pieces.{cmac_is, whole_last, short_last, padded_is}
use Rattle.ns_aes_cmac.proofs.cmac.LentCmac.finish.Goals as goal
use Rattle.ns_aes_cmac.proofs.cmac.LentCmac.finish.Goals.{then-self, else-self, then-self-eq16, else-self-eq16}

pub returns : goal.returns
returns c key m e =
    let i = c.self.inside in
    let zeros : c.if-self.zeros ≡ aes i.cipher.now (replicate 16 0) = elim c.if-self.branch [
      | then-self w ↦ w.zeros-is ∙ c.self.invariant.2 w.if-self.true
      | else-self w ↦ w.zeros-is ∙ w.encrypt_vector-zeros.ensures
    ] in
    let below : i.len ≤ 16 = c.self.invariant.0 in
    let long : length i.pending ≡ 16 = omega (arith, c.self.ranges) in
    let size : length (take i.len i.pending) ≡ i.len = length-take-le i.len i.pending (omega arith) in
    let last : c.if-self-eq16.last ≡ last_block i.cipher.now (take i.len i.pending) = elim c.if-self-eq16.branch [
      | then-self-eq16 w ↦ (let full : i.len ≡ 16 = w.if-self-eq16.true in
          whole_last i.cipher.now (take i.len i.pending) c.if-self.zeros c.doubled-subkey_1.result zeros c.doubled-subkey_1.ensures
          i.pending c.if-self-eq16.last (sym (take_all i.len i.pending (omega arith))) (size ∙ full) w.last-is)
      | else-self-eq16 w ↦ (let short : i.len ≢ 16 = w.if-self-eq16.false in
          short_last i.cipher.now (take i.len i.pending) c.if-self.zeros c.doubled-subkey_1.result zeros c.doubled-subkey_1.ensures
          i.pending c.if-self-eq16.last w.doubled.result (padded_is i.pending i.len size c.self.invariant.1) (omega arith) w.doubled.ensures
          (w.last-is ∙ ap (λ (n : ℕ). zip2 bit_xor (set i.pending n 0x80) w.doubled.result) (sym size)))
    ] in
    c.encrypt_vector.ensures ∙ ap (aes i.cipher.now) (zip2_xor i.chain c.if-self-eq16.last ∙ ap (xor_bytes i.chain) last)
    ∙ cmac_is key m (record { key = i.cipher.now; chain = i.chain; pending = take i.len i.pending }) (c.self.view_is ∙ e)
