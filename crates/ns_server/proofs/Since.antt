-- Receipts of entries that were made since a trim: as many as these entries are all of them.
use Rattle.std.proofs.Common.{◌≡◌, inl, inr, ◌==◌, ◌&&◌, ℕ, suc, ◌+◌, ◌<◌, ◌≤◌, Bool, true, cond, List, [], ◌∷◌, length, take, drop, length-append, take-append-drop, Some, refl, ap, sym, ◌∙◌, subst, arith}
use Rattle.std.specs.Prelude.{slice_get, nat_le}
use Rattle.std.proofs.Math.Bool.{and-true}
use Rattle.std.proofs.lemmas.Bool.{cond_both, cond-true, cond-false, and_parts, eqb-true, leb-true, le-leb, lt-leb}
use Rattle.std.proofs.lemmas.List.{length-take-le}
use Rattle.std.proofs.lemmas.Option.{slice_get_within}
use Rattle.ns_calls.specs.declared.call.Entry.{Entry}
use Rattle.ns_calls.proofs.Lists.{count-append, count-cons}
use Rattle.ns_kept.specs.Kept.{Remains, whole, reading, is_kept, filter_before}
use Rattle.ns_kept.proofs.Law.{sent-from_mark}
use Rattle.ns_shard.specs.State.{State, IsState, Keeps, remains}
use Rattle.ns_outside.specs.declared.receipt.Receipt.{Receipt}
use Rattle.ns_server.specs.Check.{StandsIn, Stands, IsRepeated, AreRight, receipts_of, receipts_since, entries_since, HasReceipt}
use Rattle.ns_server.proofs.Checking.{stands_before}
use Rattle.ns_server.proofs.Counting.{AreBetween, AreApart, each_hit}
use Rattle.ns_server.proofs.Shards.{whole_entries}
use Rattle.ns_server.proofs.Unread.{kept_of, get_drop}

-- ---- how many entries there are from the mark on

count_low : (mark : ℕ) (test : Entry → List Entry → Bool) (xs : List Entry) → ((i : ℕ) (e : Entry) → slice_get xs i ≡ Some e → e.number < mark)
    → entries_since mark (filter_before test xs) ≡ 0
count_low mark test [] low = refl
count_low mark test (x ∷ xs) low =
    let rest : List Entry = filter_before test xs in
    let none = count_low mark test xs (λ i e at. low (suc i) e at) in
    let here = cond-false {A = ℕ} (nat_le mark x.number) 1 0 (lt-leb mark x.number (low 0 x refl)) in
    let all = count-cons (λ (e : Entry). nat_le mark e.number) x rest in
    cond_both (test x xs) (x ∷ rest) rest (λ es. entries_since mark es ≡ 0) (λ _. omega (arith, none, here, all)) (λ _. none)

count_high : (mark : ℕ) (xs : List Entry) → ((i : ℕ) (e : Entry) → slice_get xs i ≡ Some e → mark ≤ e.number) → entries_since mark xs ≡ length xs
count_high mark [] high = refl
count_high mark (x ∷ xs) high =
    let here = cond-true {A = ℕ} (nat_le mark x.number) 1 0 (le-leb mark x.number (high 0 x refl)) in
    omega (arith, here, count_high mark xs (λ i e at. high (suc i) e at), count-cons (λ (e : Entry). nat_le mark e.number) x xs)

-- the entries from the mark on are those that were made since
pub count_since : (s : State) (h : List Entry) → Keeps h s → entries_since s.mark s.entries + s.mark ≡ s.made
count_since s h keeps =
    let m : ℕ = s.mark in
    let f : List Entry = take m h in
    let kept : List Entry = kept_of h m in
    let front : length f ≡ m = length-take-le m h keeps.left.within in
    let low : entries_since m kept ≡ 0 = count_low m (is_kept (reading (whole f))) f (λ i e at.
    let within = slice_get_within f i e at in
    let number = keeps.left.numbered i e (stands_before h m i e at) in
    omega (arith, within, number, front)) in
    let high : entries_since m (drop m h) ≡ length (drop m h) = count_high m (drop m h) (λ i e at.
    let number = keeps.left.numbered (m + i) e (sym (get_drop m h i) ∙ at) in
    omega (arith, number)) in
    let all : entries_since m s.entries ≡ entries_since m kept + entries_since m (drop m h) =
    ap (λ (k : Remains). entries_since m k.entries) keeps.left.left ∙ count-append (λ (e : Entry). nat_le m e.number) kept (drop m h) in
    let whole_is : length f + length (drop m h) ≡ length h = sym (length-append f (drop m h)) ∙ ap length (take-append-drop m h) in
    omega (arith, low, high, all, whole_is, front, keeps.made)

-- ---- receipts that are right

-- whether a receipt is of an entry of the shard from the mark on
abbrev mine : ℕ → ℕ → Receipt → Bool
mine k mark r = r.shard == k && nat_le mark r.entry.number

mine_is : (k mark : ℕ) (r : Receipt) → mine k mark r ≡ true → (r.shard ≡ k) × (mark ≤ r.entry.number)
mine_is k mark r is =
    let both = and_parts (r.shard == k) (nat_le mark r.entry.number) is in
    (eqb-true _ _ both.0, leb-true _ _ both.1)

-- a right receipt from the mark on is not passed over
right_there : (states : List State) (receipts : List Receipt) → AreRight states receipts → (k : ℕ) (s : State) → slice_get states k ≡ Some s
    → (i : ℕ) (r : Receipt) → slice_get receipts i ≡ Some r → r.shard ≡ k → s.mark ≤ r.entry.number → Stands states r × (IsRepeated receipts i → ⊥)
right_there states receipts right k s at i r here own since = elim (right i (slice_get_within receipts i r here) r here) [
  | inr stands ↦ stands
  | inl passed ↦
      (let same : passed.0 ≡ s = cc (passed.1, own, at) in
      absurd (omega (arith, rw same at passed.2, since)))
]

-- its entry stands in the history
right_entry : (states : List State) (receipts : List Receipt) → AreRight states receipts → (k : ℕ) (s : State) → slice_get states k ≡ Some s → (h : List Entry) → Keeps h s
    → (i : ℕ) (r : Receipt) → slice_get receipts i ≡ Some r → r.shard ≡ k → s.mark ≤ r.entry.number → slice_get h r.entry.number ≡ Some r.entry
right_entry states receipts right k s at h keeps i r here own since =
    let stands = (right_there states receipts right k s at i r here own since).0 in
    let same : stands.0 ≡ s = cc (stands.1, own, at) in
    let stands_in : StandsIn s r = rw same at stands.2 in
    (stands_in h keeps).entry

pub all_since : (states : List State) (receipts : List Receipt) → AreRight states receipts
    → (k : ℕ) (s : State) → slice_get states k ≡ Some s → receipts_since k s.mark receipts ≡ entries_since s.mark s.entries
    → (h : List Entry) → Keeps h s → (n : ℕ) (e : Entry) → slice_get h n ≡ Some e → s.mark ≤ n → HasReceipt k e receipts
all_since states receipts right k s at all h keeps n e stands since =
    let j : ℕ = entries_since s.mark s.entries in
    let whole_is : j + s.mark ≡ length h = count_since s h keeps ∙ keeps.made in
    let entry = right_entry states receipts right k s at h keeps in
    let are : AreBetween (mine k s.mark) s.mark (j + s.mark) receipts = λ i r here is.
    let own = mine_is k s.mark r is in
    let within = slice_get_within h r.entry.number r.entry (entry i r here own.0 own.1) in
    (own.1, omega (arith, within, whole_is)) in
    let apart : AreApart (mine k s.mark) receipts = λ i2 i q r lt there here is_q is_r same.
    let own_q = mine_is k s.mark q is_q in
    let own_r = mine_is k s.mark r is_r in
    (right_there states receipts right k s at i r here own_r.0 own_r.1).1 (r, i2, q, here, lt, there, own_q.0 ∙ sym own_r.0, same) in
    let below : n < j + s.mark = (let within = slice_get_within h n e stands in omega (arith, within, whole_is)) in
    let found = each_hit (mine k s.mark) s.mark j receipts are apart all n since below in
    let own = mine_is k s.mark found.receipt found.own in
    let there : slice_get h n ≡ Some found.receipt.entry =
    subst (λ m. slice_get h m ≡ Some found.receipt.entry) found.number (entry found.place found.receipt found.at own.0 own.1) in
    (found.place, found.receipt, found.at, own.0, cc (there, stands))

pub all_left : (states : List State) (receipts : List Receipt) → AreRight states receipts
    → (k : ℕ) (s : State) → slice_get states k ≡ Some s → IsState s → receipts_since k s.mark receipts ≡ entries_since s.mark s.entries
    → (n : ℕ) (e : Entry) → slice_get s.entries n ≡ Some e → s.mark ≤ e.number → HasReceipt k e receipts
all_left states receipts right k s at is all n e stands since =
    let there = (sent-from_mark s.roster is.history (remains s) is.keeps.left n e stands since).0 in
    all_since states receipts right k s at all is.history is.keeps e.number e there since

-- ---- a shard that was never trimmed

count_alike : (k mark : ℕ) → mark ≡ 0 → (rs : List Receipt) → receipts_since k mark rs ≡ receipts_of k rs
count_alike k mark untrimmed [] = refl
count_alike k mark untrimmed (r ∷ rs) =
    let is : nat_le mark r.entry.number ≡ true = le-leb mark r.entry.number (omega (arith, untrimmed)) in
    let same : mine k mark r ≡ (r.shard == k) = rw is (and-true (r.shard == k)) in
    let here = ap (λ b. cond {A = ℕ} b 1 0) same in
    omega (arith, here, count_alike k mark untrimmed rs, count-cons (mine k mark) r rs, count-cons (λ (q : Receipt). q.shard == k) r rs)

pub all_receipts : (states : List State) (receipts : List Receipt) → AreRight states receipts
    → (k : ℕ) (s : State) → slice_get states k ≡ Some s → IsState s → s.mark ≡ 0 → receipts_of k receipts ≡ length s.entries
    → (n : ℕ) (e : Entry) → slice_get s.entries n ≡ Some e → HasReceipt k e receipts
all_receipts states receipts right k s at is untrimmed all n e stands =
    let entries : s.entries ≡ is.history = whole_entries s is.history is.keeps.left untrimmed in
    let since = count_since s is.history is.keeps in
    let as_many : receipts_since k s.mark receipts ≡ entries_since s.mark s.entries =
    omega (arith, count_alike k s.mark untrimmed receipts, all, since, untrimmed, is.keeps.made, ap length entries) in
    all_since states receipts right k s at as_many is.history is.keeps n e (subst (λ (es : List Entry). slice_get es n ≡ Some e) entries stands) (omega (arith, untrimmed))
