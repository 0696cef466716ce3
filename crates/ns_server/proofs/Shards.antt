-- The sixteen shards, one after the other.
use Rattle.std.proofs.Common.{◌≡◌, ℕ, zero, suc, ◌+◌, ◌≤◌, List, [], ◌∷◌, length, take, option_map, Bool, cond, Some, None, refl, ap, sym, ◌∙◌, subst, arith, eq-eqb}
use Rattle.std.proofs.lemmas.List.{length-take-le}
use Rattle.std.specs.Option.{option_and_then}
use Rattle.std.specs.Prelude.{slice_get, slice_index}
use Rattle.ns_types.specs.Identity.{shard_of}
use Rattle.ns_types.specs.declared.identity.DevEui.{DevEui}
use Rattle.ns_roster.specs.Network.{Network}
use Rattle.ns_calls.specs.declared.call.Entry.{Entry}
use Rattle.ns_kept.specs.Kept.{Remains, whole, reading, is_kept}
use Rattle.ns_kept.specs.Left.{Leaves, left_of}
use Rattle.ns_shard.specs.State.{State, IsState, remains, seen, known_greatest, greatest_in}
use Rattle.ns_tally.specs.Tally.{added}
use Rattle.ns_server.specs.Settled.{AreStates, greatest_of}
use Rattle.ns_server.specs.Rows.{AreRow}
use Rattle.ns_server.proofs.Unread.{kept_fewer, length_left}

row_from : (P : ℕ → State → Type 0) (i : ℕ) (ss : List State) → AreRow P i ss → (k : ℕ) (s : State) → slice_get ss k ≡ Some s → P (i + k) s
row_from P i [] are k s at = absurd cc
row_from P i (x ∷ ss) are zero s at =
    let same : x ≡ s = cc in
    subst (λ n. P n s) (omega arith) (subst (P i) same are.0)
row_from P i (x ∷ ss) are (suc k) s at = subst (λ n. P n s) (omega arith) (row_from P (suc i) ss are.1 k s at)

-- what each of the shards one after the other has, from shard 0 on, the one of each place has
pub row_at : (P : ℕ → State → Type 0) (ss : List State) → AreRow P 0 ss → (k : ℕ) (s : State) → slice_get ss k ≡ Some s → P k s
row_at P ss are k s at = subst (λ n. P n s) (omega arith) (row_from P 0 ss are k s at)

pub slice_index-added : (xs ys : List ℕ) (k : ℕ) → slice_index (added xs ys) k ≡ slice_index xs k + slice_index ys k
slice_index-added [] ys k = omega arith
slice_index-added (x ∷ xs) [] k = omega arith
slice_index-added (x ∷ xs) (y ∷ ys) zero = refl
slice_index-added (x ∷ xs) (y ∷ ys) (suc k) = slice_index-added xs ys k

-- what the shard of a device gives as its greatest nonce is the definition's over that shard's history
pub greatest_there : (net : Network) (ss : List State) (eui : DevEui) (s : State) → AreStates net ss → slice_get ss (shard_of eui) ≡ Some s → greatest_in s eui ≡ greatest_of net ss eui
greatest_there net ss eui s are at =
    let is = are (shard_of eui) s at in
    let mine : shard_of eui ≡ s.index = sym is.index in
    ap (λ (b : Bool). cond b (known_greatest s.roster (seen s) eui) None) (eq-eqb _ _ mine)
    ∙ (ap (λ (n : Network). known_greatest n (seen s) eui) is.set_up ∙ sym (ap (option_and_then (λ (q : State). known_greatest net (seen q) eui)) at))

-- where a shard was never trimmed, its entries are its whole history
pub whole_entries : (s : State) (h : List Entry) → Leaves s.roster h (remains s) → s.mark ≡ 0 → s.entries ≡ h
whole_entries s h leaves untrimmed = subst (λ m. s.entries ≡ (left_of m h).entries) untrimmed (ap (λ (k : Remains). k.entries) leaves.left)

-- no more entries are left than were made
pub entries_fit : (s : State) → IsState s → length s.entries ≤ s.made
entries_fit s is =
    let h : List Entry = is.history in
    let fewer = kept_fewer (λ es. es) (record { none = refl; more = λ x xs. refl }) (is_kept (reading (whole (take s.mark h)))) (take s.mark h) in
    omega (arith, fewer, length_left s.roster h (remains s) is.keeps.left, length-take-le s.mark h is.keeps.left.within, is.keeps.made)

-- what a shard's trims dropped, beside what is left, is what it made
pub dropped_at : (states ss : List State) (shard place : ℕ) (s : State) (n : ℕ) → ss ≡ states → place ≡ shard → slice_get ss place ≡ Some s → length s.entries + n ≡ s.made →
    option_map (λ (q : State). q.made) (slice_get states shard) ≡ option_map (λ (q : State). length q.entries + n) (slice_get states shard)
dropped_at states ss shard place s n seen_so here at sum =
    let there : slice_get states shard ≡ Some s = cc in
    ap (option_map (λ (q : State). q.made)) there ∙ (ap Some (sym sum) ∙ sym (ap (option_map (λ (q : State). length q.entries + n)) there))
