-- What the tests of a receipt say.
use Rattle.std.proofs.Common.{◌≡◌, inl, inr, ℕ, zero, suc, [], ◌∷◌, ◌≤◌, Bool, false, List, take, Some, length, sym, subst, arith}
use Rattle.std.specs.Prelude.{slice_get, ◌↔◌, IsTrue}
use Rattle.std.proofs.lemmas.Bool.{cases_lt}
use Rattle.std.proofs.lemmas.Option.{slice_get_within}
use Rattle.ns_calls.specs.declared.call.Entry.{Entry}
use Rattle.ns_shard.specs.State.{State}
use Rattle.ns_outside.specs.declared.receipt.Receipt.{Receipt}
use Rattle.ns_server.specs.Check.{StandsIn, Stands, IsPassed, IsRepeated, IsRight}

-- the receipt is looked up in its shard
pub stands_there : (states ss : List State) (r : Receipt) (place : ℕ) (s : State) (b : Bool) → ss ≡ states → place ≡ r.shard → slice_get ss place ≡ Some s
    → (IsTrue b ↔ StandsIn s r) → (IsTrue b ↔ Stands states r)
stands_there states ss r place s b seen shard at stands =
    let home : slice_get states r.shard ≡ Some s = cc in (
      (λ t. (s, home, stands.0 t)),
      (λ w. (let same : w.0 ≡ s = cc (w.1, home) in stands.1 (rw same at w.2))),
    )

-- the number of a receipt that is not passed over is not below the mark
pub since_mark : (states ss : List State) (r : Receipt) (place : ℕ) (s : State) → ss ≡ states → place ≡ r.shard → slice_get ss place ≡ Some s → (IsPassed states r → ⊥) → s.mark ≤ r.entry.number
since_mark states ss r place s same shard at unpassed =
    let home : slice_get states r.shard ≡ Some s = cc in
    elim (cases_lt r.entry.number s.mark) [
      | inl below ↦ absurd (unpassed (s, home, below))
      | inr since ↦ since
    ]

-- there is no such shard
pub stands_nowhere : (states ss : List State) (r : Receipt) (place : ℕ) → ss ≡ states → place ≡ r.shard → length ss ≤ place → (IsTrue false ↔ Stands states r)
stands_nowhere states ss r place seen shard past = (
  (λ t. absurd (cc t)),
  (λ w.
      let within = slice_get_within ss r.shard w.0 (subst (λ l. slice_get l r.shard ≡ Some w.0) (sym seen) w.1) in
      absurd (omega (arith, within, shard, past))),
)

-- a receipt is right where it stands and no earlier one has its place
pub right_stands : (states : List State) (receipts : List Receipt) (i : ℕ) (r : Receipt) → slice_get receipts i ≡ Some r → Stands states r → (IsRepeated receipts i → ⊥) → IsRight states receipts i
right_stands states receipts i r at stands fresh q there = (let same : r ≡ q = cc (at, there) in inr (subst (Stands states) same stands, fresh))

pub right_is : (states : List State) (receipts : List Receipt) (i : ℕ) (r : Receipt) → slice_get receipts i ≡ Some r → (IsPassed states r → ⊥) → IsRight states receipts i → Stands states r × (IsRepeated receipts i → ⊥)
right_is states receipts i r at unpassed right = elim (right r at) [
  | inl passed ↦ absurd (unpassed passed)
  | inr stands ↦ stands
]

-- what stands at a place of the beginning of a history stands there in the history
pub stands_before : (h : List Entry) (n k : ℕ) (e : Entry) → slice_get (take n h) k ≡ Some e → slice_get h k ≡ Some e
stands_before h zero k e at = absurd cc
stands_before [] (suc n) k e at = absurd cc
stands_before (x ∷ h) (suc n) zero e at = at
stands_before (x ∷ h) (suc n) (suc k) e at = stands_before h n k e at
