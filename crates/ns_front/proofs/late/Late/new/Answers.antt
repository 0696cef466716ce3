use Rattle.std.proofs.Common.{◌≡◌, ℕ, zero, suc, refl, sym, subst}
use Rattle.std.specs.Prelude.{replicate}
use Rattle.ns_front.specs.Late.{row_at, no_row}
use Rattle.ns_front.specs.Private.Marks.{marks_at, AreOfRow}
use Rattle.ns_front.proofs.MarkLemmas.{marked_none}
use Rattle.ns_front.proofs.late.Late.new.Goals as goal

-- each row of a table of rows without frames is one
none_at : (n row : ℕ) → row_at (replicate n no_row) row ≡ no_row
none_at zero row = refl
none_at (suc n) zero = refl
none_at (suc n) (suc row) = none_at n row

pub returns-clause-none : goal.returns-clause-none
returns-clause-none c = λ row.
    rw (c.in_ok-rows.ensures.items_if_clones_equal (λ y same. same)) (subst (λ r. row_at (replicate 1024 r) row ≡ no_row) (sym c.none-2.ensures) (none_at 1024 row))

pub invariant_of-result-clause-told : goal.invariant_of-result-clause-told
invariant_of-result-clause-told c = λ row.
    let none : row_at c.in_ok-rows.rows.items row ≡ no_row = rw (c.in_ok-rows.ensures.items_if_clones_equal (λ y same. same)) (subst (λ r. row_at (replicate 1024 r) row ≡ no_row) (sym c.none-2.ensures) (none_at 1024 row)) in
    subst (λ r. AreOfRow (marks_at c.in_ok-marks.marks.items row) r) (sym none) (marked_none (marks_at c.in_ok-marks.marks.items row))
