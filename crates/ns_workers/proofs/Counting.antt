-- Counts of shards after more receipts.
use Rattle.std.proofs.Common.{◌≡◌, ℕ, ◌+◌, ◌==◌, Bool, cond, List, [], ◌∷◌, ◌++◌, arith}
use Rattle.std.proofs.lemmas.List.Sums.{sum_by_push, sum_by-append}
use Rattle.std.specs.Prelude.{count_by}
use Rattle.ns_outside.specs.declared.receipt.Receipt.{Receipt}
use Rattle.ns_outside.specs.Answered.{RisesAt}
use Rattle.ns_workers.specs.Counts.{RisesByReceipts}

pub count_by_push : {X : Type 0} (p : X → Bool) (xs : List X) (x : X) → count_by p (xs ++ x ∷ []) ≡ count_by p xs + cond (p x) 1 0
count_by_push p xs x = sum_by_push (λ y. cond (p y) 1 0) xs x

pub count_by_both : {X : Type 0} (p : X → Bool) (xs ys : List X) → count_by p (xs ++ ys) ≡ count_by p xs + count_by p ys
count_by_both p xs ys = sum_by-append (λ y. cond (p y) 1 0) xs ys

pub rises_none : (counts : List ℕ) → RisesByReceipts counts counts []
rises_none counts k = omega arith

pub rises_more : (old mid new : List ℕ) (rs : List Receipt) (r : Receipt) → RisesByReceipts old mid rs → RisesAt r.shard mid new → RisesByReceipts old new (rs ++ r ∷ [])
rises_more old mid new rs r before step k =
    let p : Receipt → Bool = λ q. k == q.shard in
    let pushed = count_by_push p rs r in
    let b = before k in
    let s = step.rise k in
    omega (arith, pushed, b, s)

pub rises_both : (old mid new : List ℕ) (rs qs : List Receipt) → RisesByReceipts old mid rs → RisesByReceipts mid new qs → RisesByReceipts old new (rs ++ qs)
rises_both old mid new rs qs before after k =
    let p : Receipt → Bool = λ q. k == q.shard in
    let both = count_by_both p rs qs in
    let b = before k in
    let a = after k in
    omega (arith, both, b, a)
