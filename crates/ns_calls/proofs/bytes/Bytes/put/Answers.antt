use Rattle.std.proofs.Common.{◌≡◌, ◌≤◌, ℕ, ◌+◌, ◌-◌, ◌++◌, length, drop, set, replicate, ap, ◌∙◌, arith, length-append, length-drop}
use Rattle.std.proofs.lemmas.Slice.{drop-append-drop}
use Rattle.std.proofs.lemmas.List.{length-take}
use Rattle.ns_calls.proofs.BytesLemmas.{behind, one_more_zero, zeros_meet, kept_with_zeros}
use Rattle.ns_calls.proofs.bytes.Bytes.put.Goals as goal

pub loop-at-preserved : goal.loop-at-preserved
loop-at-preserved g c =
    let bytes = c.args.bytes.now in
    let at = c.loop-at.at in
    let copied = c.copy_from_slice.new.self ++ drop (length bytes) c.self.inside.room in
    let within : at + 1 ≤ g.row.N = omega (arith, length-take c.self.inside.len c.self.inside.room, c.self.invariant.0) in
    let size : length copied ≡ g.row.N = omega (arith, length-append {A = ℕ}, length-drop {A = ℕ}, ap length c.copy_from_slice.ensures.after) in
    record {
      within = within;
      room = ap (λ xs. set xs at 0) c.loop-at.invariant.room ∙ one_more_zero bytes copied at (omega arith) (omega arith);
    }

pub invariant_of-self : goal.invariant_of-self
invariant_of-self g c =
    let n = g.row.N in
    let bytes = c.args.bytes.now in
    let len = length bytes in
    let at = c.loop-at.at in
    let copied = c.copy_from_slice.new.self ++ drop len c.self.inside.room in
    let rest : drop at copied ≡ replicate (n - at) 0 =
    drop-append-drop len c.self.inside.room c.copy_from_slice.new.self at (omega arith) (ap length c.copy_from_slice.ensures.after)
    ∙ behind n c.self.inside.len at c.self.inside.room c.self.invariant (omega arith) in
    let zeros : replicate {A = ℕ} (at - len) 0 ++ drop at copied ≡ replicate (n - len) 0 =
    ap (λ zs. replicate (at - len) 0 ++ zs) rest ∙ zeros_meet n len at (omega arith) (omega arith) in
    kept_with_zeros n bytes c.loop-at.self-inside.room (c.loop-at.invariant.room ∙ ap (λ zs. bytes ++ zs) zeros)
