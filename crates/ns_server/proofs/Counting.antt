-- Receipts with numbers of their own between two bounds, as many as there are numbers, have them all.
use Rattle.std.proofs.lemmas.Bool.{cases_eq, and_parts, eqb-true, eq-eqb, ne_eqb}
use Rattle.ns_calls.proofs.LocalLemmas.{bool_tells}
use Rattle.ns_calls.proofs.Lists.{count-cons}
use Rattle.std.proofs.Common.{◌≡◌, ◌==◌, ◌&&◌, inl, inr, zero-add, ℕ, zero, suc, ◌+◌, ◌<◌, ◌≤◌, Bool, true, false, cond, List, [], ◌∷◌, Some, refl, ap, sym, ◌∙◌, count_by, arith}
use Rattle.std.specs.Prelude.{slice_get}
use Rattle.ns_outside.specs.declared.receipt.Receipt.{Receipt}

-- ---- sums over the numbers below a bound

abbrev bit : Bool → ℕ
bit b = cond b 1 0

abbrev below : (ℕ → ℕ) → ℕ → ℕ
below f zero = 0
below f (suc m) = below f m + f m

below_add : (f g h : ℕ → ℕ) → ((n : ℕ) → h n ≡ f n + g n) → (m : ℕ) → below h m ≡ below f m + below g m
below_add f g h is zero = refl
below_add f g h is (suc m) = omega (arith, below_add f g h is m, is m)

below_zero : (m : ℕ) → below (λ n. 0) m ≡ 0
below_zero zero = refl
below_zero (suc m) = omega (arith, below_zero m)

below_past : (v m : ℕ) → m ≤ v → below (λ n. bit (v == n)) m ≡ 0
below_past v zero le = refl
below_past v (suc m) le =
    let other : (v == m) ≡ false = ne_eqb v m (λ same. omega (arith, same, le)) in
    rw other (omega (arith, below_past v m (omega arith)))

below_hit : (v m : ℕ) → v < m → below (λ n. bit (v == n)) m ≡ 1
below_hit v zero lt = absurd (omega arith)
below_hit v (suc m) lt =
    elim (cases_eq v m) [
      | inl same ↦ rw (eq-eqb v m same) (omega (arith, below_past v m (omega (arith, same))))
      | inr other ↦ rw (ne_eqb v m other) (omega (arith, below_hit v m (omega (arith, lt, other))))
    ]

-- a first receipt is counted at its number, where it is of the shard
below_first : (b : Bool) (v m : ℕ) → (b ≡ true → v < m) → below (λ n. bit (b && (v == n))) m ≡ bit b
below_first true v m lt = below_hit v m (lt refl)
below_first false v m lt = below_zero m

below_none : (f : ℕ → ℕ) (m : ℕ) → ((n : ℕ) → n < m → f n ≡ 0) → below f m ≡ 0
below_none f zero none = refl
below_none f (suc m) none =
    let rest = below_none f m (λ n lt. none n (omega (arith, lt))) in
    omega (arith, rest, none m (omega arith))

below_next : (f : ℕ → ℕ) (low j : ℕ) → below f (suc j + low) ≡ below f (j + low) + f (j + low)
below_next f low j =
    let next : suc j + low ≡ suc (j + low) = omega arith in
    ap (below f) next

-- as many numbers behind a low one
below_each : (f : ℕ → ℕ) → ((n : ℕ) → f n ≤ 1) → (low j : ℕ) → below f (j + low) ≤ below f low + j
below_each f one low zero = rw zero-add (omega arith)
below_each f one low (suc j) = omega (arith, below_next f low j, below_each f one low j, one (j + low))

below_miss : (f : ℕ → ℕ) → ((n : ℕ) → f n ≤ 1) → (low j n : ℕ) → low ≤ n → n < j + low → f n ≡ 0 → below f (j + low) + 1 ≤ below f low + j
below_miss f one low zero n since lt none = absurd (omega (arith, since, lt))
below_miss f one low (suc j) n since lt none =
    let next = below_next f low j in
    elim (cases_eq n (j + low)) [
      | inl same ↦ (let here : f (j + low) ≡ 0 = rw same at none in omega (arith, next, here, below_each f one low j))
      | inr other ↦ omega (arith, next, below_miss f one low j n since (omega (arith, lt, other)) none, one (j + low))
    ]

-- ---- receipts that pass a test, by number

abbrev hits : (Receipt → Bool) → ℕ → List Receipt → ℕ
hits mine n [] = 0
hits mine n (r ∷ rs) = bit (mine r && (r.entry.number == n)) + hits mine n rs

-- the number of each is between the bounds
abbrev pub AreBetween : (Receipt → Bool) → ℕ → ℕ → List Receipt → Type 0
AreBetween mine low high rs = (i : ℕ) (r : Receipt) → slice_get rs i ≡ Some r → mine r ≡ true → (low ≤ r.entry.number) × (r.entry.number < high)

-- no two of them have one number
abbrev pub AreApart : (Receipt → Bool) → List Receipt → Type 0
AreApart mine rs =
    (j i : ℕ) (q r : Receipt) → j < i → slice_get rs j ≡ Some q → slice_get rs i ≡ Some r → mine q ≡ true → mine r ≡ true → q.entry.number ≡ r.entry.number → ⊥

-- they are counted by number
all_hits : (mine : Receipt → Bool) (low high : ℕ) (rs : List Receipt) → AreBetween mine low high rs → count_by mine rs ≡ below (λ n. hits mine n rs) high
all_hits mine low high [] are = sym (below_zero high)
all_hits mine low high (r ∷ rs) are =
    let rest = all_hits mine low high rs (λ i q at. are (suc i) q at) in
    let first = below_first (mine r) r.entry.number high (λ is. (are 0 r refl is).1) in
    let parts = below_add (λ n. bit (mine r && (r.entry.number == n))) (λ n. hits mine n rs) (λ n. hits mine n (r ∷ rs)) (λ n. refl) high in
    omega (arith, rest, first, parts, count-cons mine r rs)

-- a receipt that is counted at a number
pub record Found (mine : Receipt → Bool) (n : ℕ) (rs : List Receipt) : Type 0 where
  pub place : ℕ
  pub receipt : Receipt
  pub at : slice_get rs place ≡ Some receipt
  pub own : mine receipt ≡ true
  pub number : receipt.entry.number ≡ n

hit_found : (mine : Receipt → Bool) (n : ℕ) (rs : List Receipt) → 0 < hits mine n rs → Found mine n rs
hit_found mine n [] some = absurd (omega arith)
hit_found mine n (r ∷ rs) some =
    elim (bool_tells (mine r && (r.entry.number == n))) [
      | inl is ↦
          (let both = and_parts (mine r) (r.entry.number == n) is in
          record { place = 0; receipt = r; at = refl; own = both.0; number = eqb-true r.entry.number n both.1 })
      | inr isnt ↦
          (let f = hit_found mine n rs (omega (arith, rw isnt at some)) in
          record { place = suc f.place; receipt = f.receipt; at = f.at; own = f.own; number = f.number })
    ]

-- no number is counted twice
hits_once : (mine : Receipt → Bool) (n : ℕ) (rs : List Receipt) → AreApart mine rs → hits mine n rs ≤ 1
hits_once mine n [] apart = omega arith
hits_once mine n (r ∷ rs) apart = pick (mine r) (r.entry.number == n) refl refl (hits mine n rs) refl (hits_once mine n rs (λ j i q p lt at there. apart (suc j) (suc i) q p (omega arith) at there))
  where
    pick : (a b : Bool) → mine r ≡ a → (r.entry.number == n) ≡ b → (h : ℕ) → hits mine n rs ≡ h → hits mine n rs ≤ 1 → bit (a && b) + hits mine n rs ≤ 1
    pick true true own is_n zero none once = omega (arith, none)
    pick true true own is_n (suc h) some once =
        let f = hit_found mine n rs (omega (arith, some)) in
        absurd (apart 0 (suc f.place) r f.receipt (omega arith) refl f.at own f.own (eqb-true r.entry.number n is_n ∙ sym f.number))
    pick true false own is_n h is once = omega (arith, once)
    pick false b own is_n h is once = omega (arith, once)

-- no number below the lower bound is counted
hits_low : (mine : Receipt → Bool) (low high n : ℕ) (rs : List Receipt) → AreBetween mine low high rs → n < low → hits mine n rs ≡ 0
hits_low mine low high n [] are lt = refl
hits_low mine low high n (r ∷ rs) are lt =
    let none = hits_low mine low high n rs (λ i q at. are (suc i) q at) lt in
    elim (bool_tells (mine r)) [
      | inl own ↦ rw (own, ne_eqb r.entry.number n (λ same. omega (arith, same, (are 0 r refl own).0, lt))) (omega (arith, none))
      | inr isnt ↦ rw isnt (omega (arith, none))
    ]

-- as many receipts as numbers from the lower bound on: each of these is the number of a receipt
pub each_hit : (mine : Receipt → Bool) (low j : ℕ) (rs : List Receipt) → AreBetween mine low (j + low) rs → AreApart mine rs → count_by mine rs ≡ j → (n : ℕ) → low ≤ n → n < j + low → Found mine n rs
each_hit mine low j rs are apart all n since lt = pick (hits mine n rs) refl
  where
    pick : (h : ℕ) → hits mine n rs ≡ h → Found mine n rs
    pick zero none =
        let missed = below_miss (λ x. hits mine x rs) (λ x. hits_once mine x rs apart) low j n since lt none in
        let low_none = below_none (λ x. hits mine x rs) low (λ x less. hits_low mine low (j + low) x rs are less) in
        absurd (omega (arith, missed, low_none, all_hits mine low (j + low) rs are, all))
    pick (suc h) some = hit_found mine n rs (omega (arith, some))
