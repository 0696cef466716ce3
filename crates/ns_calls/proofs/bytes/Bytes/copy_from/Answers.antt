use Rattle.std.proofs.Common.{rules, ◌≡◌, ℕ, ◌-◌, List, ◌++◌, length, take, drop, replicate, sym, ap, subst, ◌∙◌}
use Rattle.std.proofs.lemmas.List.{take-append-drop}
use Rattle.ns_calls.proofs.BytesLemmas.{behind}
use Rattle.ns_calls.proofs.bytes.Bytes.copy_from.Goals as goal

pub invariant_of-self : goal.invariant_of-self
invariant_of-self g c =
    let n = g.row.N in
    let m = c.max-len.result in
    let self = c.self.inside in
    let other = c.other.inside in
    let whole : c.copy_from_slice.new.self ++ drop m self.room ≡ other.room =
    ap (λ xs. xs ++ drop m self.room) (search rules)
    ∙ ap (λ zs. take m other.room ++ zs) (behind n self.len m self.room c.self.invariant (search rules) ∙ sym (behind n other.len m other.room c.other.invariant (search rules)))
    ∙ take-append-drop m other.room in
    subst (λ (room : List ℕ). (length (take other.len room) ≡ other.len) × (room ≡ take other.len room ++ replicate (n - other.len) 0)) (sym whole) c.other.invariant
