use Rattle.std.proofs.Common.{◌≡◌, ℕ, List, ◌++◌, replicate, take, ap, sym, ◌∙◌}
use Rattle.ns_aes_cmac.specs.Aes.{aes}
use Rattle.ns_aes_cmac.specs.CmacState.{CmacState, state_of}
use Rattle.ns_aes_cmac.proofs.cmac.Cmac.update.Goals as goal

-- the lent cipher is this one's
same_key : (c : goal.After-self-2-1) → c.lent.inside.cipher.now ≡ c.self.inside.cipher
same_key c =
    let key : CmacState → List ℕ = (λ s. s.key) in
    ap key c.lent.view_is ∙ c.update.ensures.key ∙ ap key (c.lend-lent.ensures ∙ sym c.self.view_is)

pub invariant_of-self : goal.invariant_of-self
invariant_of-self c = (
  c.lent.invariant.0,
  c.lent.invariant.1,
  λ started. c.lent.invariant.2 started ∙ ap (λ (k : List ℕ). aes k (replicate 16 0)) (same_key c),
)

pub returns : goal.returns
returns c key m e =
    ap (λ (k : List ℕ). record { key = k; chain = c.lent.inside.chain; pending = take c.lent.inside.len c.lent.inside.pending }) (sym (same_key c))
    ∙ c.lent.view_is ∙ c.update.ensures.state key m (c.lend-lent.ensures ∙ e)
