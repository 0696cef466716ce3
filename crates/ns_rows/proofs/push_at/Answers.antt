use Rattle.std.proofs.Common.{◌≡◌, ◌++◌, ◌∷◌, [], Option, Some, IsSome, Result, Ok, Err, OnErr, refl, ap, subst, ◌∙◌}
use Rattle.std.specs.Option.{option_map_or}
use Rattle.smallvec.specs.SmallVec.{SmallVec}
use Rattle.ns_rows.specs.Rows.{row_in}
use Rattle.ns_rows.proofs.Written.{row-added, row-same}
use Rattle.ns_rows.proofs.push_at.Goals as goal

on_err : {A E P : Type 0} (r : Result A E) → P → OnErr r P
on_err (Ok x) holds = tt
on_err (Err e) holds = holds

found : {X : Type 0} (o : Option (SmallVec X)) (v : SmallVec X) → Some v ≡ o → (v.items ≡ option_map_or (λ (w : SmallVec X). w.items) o []) × IsSome o
found {X} o v is = (ap (λ (p : Option (SmallVec X)). option_map_or (λ (w : SmallVec X). w.items) p []) is, subst (λ (p : Option (SmallVec X)). IsSome p) is refl)

pub returns-in_err-push-clause-err : goal.returns-in_err-push-clause-err
returns-in_err-push-clause-err g c =
    let known = found _ _ c.in-Some.ensures.value in
    let writes = (c.get_mut.follows.holds c.push.new.self).3 known.1 in
    on_err c.from_residual.result
    (row-same c.args.rows.now.entries (c.get_mut.follows.lender c.push.new.self).entries c.args.key c.push.new.self writes.0 (ap (λ (v : SmallVec g.row.T.Denot). v.items) c.in_err-push.ensures.err ∙ known.0))

pub returns-in-Some-clause-ok : goal.returns-in-Some-clause-ok
returns-in-Some-clause-ok g c =
    let known = found _ _ c.in-Some.ensures.value in
    let writes = (c.get_mut.follows.holds c.push.new.self).3 known.1 in
    row-added c.args.rows.now.entries (c.get_mut.follows.lender c.push.new.self).entries c.args.key c.push.new.self writes.0 c.args.element
    (c.in_ok-push.ensures.ok ∙ ap (λ is. is ++ c.args.element ∷ []) known.0)

pub returns-clause-ok : goal.returns-clause-ok
returns-clause-ok g c =
    let none = c.get_mut.follows.holds-at-none in
    let new : [] ≡ row_in c.args.rows.now.entries c.args.key = ap (λ (o : Option (SmallVec g.row.T.Denot)). option_map_or (λ (w : SmallVec g.row.T.Denot). w.items) o []) c.in_default.ensures.value in
    row-added c.args.rows.now.entries c.insert.new.self.entries c.args.key c.push-2.new.self (rw none at c.in_ok-insert.ensures.updates.0) c.args.element
    (c.in_ok-push-2.ensures.ok ∙ ap (λ is. is ++ c.args.element ∷ []) (c.new-row.ensures.items ∙ new))
