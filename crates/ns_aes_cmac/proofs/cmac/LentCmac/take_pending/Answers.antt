use Rattle.std.proofs.Common.{◌≡◌, [], length, take, ap, ◌∙◌}
use Rattle.ns_aes_cmac.specs.CmacState.{CmacState}
use Rattle.ns_aes_cmac.specs.declared.cmac.LentCmac.TheInside.{Inside}
use Rattle.ns_aes_cmac.proofs.Pieces.{after_pending, pending_taken}
use Rattle.ns_aes_cmac.proofs.cmac.LentCmac.take_pending.Goals as goal
use Rattle.ns_aes_cmac.proofs.cmac.LentCmac.take_pending.Goals.{then-self, else-self}

pub returns : goal.returns
returns c =
    let i = c.self.inside in
    let full : length (take i.len i.pending) ≡ 16 = ap (λ (s : CmacState). length s.pending) c.self.view_is ∙ c.requires in
    elim c.if-self.branch [
      | then-self w ↦ ap (λ (s : Inside). record { key = s.cipher.now; chain = s.chain; pending = [] }) w.self-inside-is
          ∙ pending_taken i.cipher.now i.chain i.pending i.len w.encrypt_vector.result c.self.told.2 full w.encrypt_vector.ensures ∙ ap after_pending c.self.view_is
      | else-self w ↦ ap (λ (s : Inside). record { key = s.cipher.now; chain = s.chain; pending = [] }) w.self-inside-is
          ∙ pending_taken i.cipher.now i.chain i.pending i.len w.encrypt_two_vectors.result.1 c.self.told.2 full w.encrypt_two_vectors.ensures.second ∙ ap after_pending c.self.view_is
    ]
