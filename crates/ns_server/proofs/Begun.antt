-- Shards that began with entries, and those that a server begins with.
use Rattle.std.proofs.Common.{◌≡◌, ℕ, zero, suc, ◌+◌, ◌≤◌, List, [], ◌∷◌, ◌++◌, length, take, Option, None, Some, unwrap_or, Result, Ok, Err, IfOk, OnOk, OnErr, refl, ap, sym, ◌∙◌, subst, arith}
use Rattle.std.specs.Prelude.{slice_get, get_or}
use Rattle.std.proofs.lemmas.List.{append_assoc, append-nil, take_all}
use Rattle.std.proofs.lemmas.Option.{unwrap_or-slice_get}
use Rattle.std.proofs.Math.Seq.{take-suc}
use Rattle.ns_types.specs.Identity.{shard_count}
use Rattle.ns_roster.specs.Network.{Network}
use Rattle.ns_calls.specs.declared.call.Call.{Call}
use Rattle.ns_calls.specs.declared.call.Entry.{Entry}
use Rattle.ns_calls.specs.Shards.{shard_of_call}
use Rattle.ns_calls.specs.Legal.{IsHistory, entry_for}
use Rattle.ns_calls.proofs.LegalLemmas.{history_more}
use Rattle.ns_kept.specs.Kept.{keep}
use Rattle.ns_kept.specs.Left.{Leaves}
use Rattle.ns_kept.proofs.Law.{leaves-trim}
use Rattle.ns_shard.specs.State.{State, IsState, Keeps, remains, no_entries, after_call, after_trim, dropped}
use Rattle.ns_shard.specs.declared.trim.Dropped.{Dropped}
use Rattle.ns_shard.proofs.Entries.{keeps-more}
use Rattle.ns_tally.specs.declared.ShardBook.{ShardBook}
use Rattle.ns_tally.specs.Tally.{shard_of_book, total_of_book}
use Rattle.ns_server.specs.Begun.{BeginsWith, BeganAs, ArePlaced, states_at}
use Rattle.ns_server.specs.Kept.{IsStateOf, IsKept}
use Rattle.ns_server.specs.Trims.{IsTrimOf}
use Rattle.ns_server.specs.Rows.{states_below, new_states, IsPlaced, AreFirst}

-- ---- one shard

-- a shard began as it is
began_self : (s : State) → BeganAs s s
began_self s = record {
  goes_on = λ h is keeps. record {
    more = [];
    is_history = subst (IsHistory s.roster s.index) (sym (append-nil h)) is;
    keeps = subst (λ l. Keeps l s) (sym (append-nil h)) keeps;
  };
}

-- one more call makes the history longer
pub began_call : (first s : State) (call : Call) → shard_of_call call ≡ s.index → BeganAs first s → BeganAs first (after_call s call)
began_call first s call own began = record { goes_on = λ h is keeps. longer h (began.goes_on h is keeps) }
  where
    longer : (h : List Entry) → BeginsWith h s → BeginsWith h (after_call s call)
    longer h was =
        let now = h ++ was.more in
        let e = entry_for s.roster now (length now) call in
        let same : now ++ e ∷ [] ≡ h ++ (was.more ++ e ∷ []) = append_assoc h was.more (e ∷ []) in
        record {
          more = was.more ++ e ∷ [];
          is_history = subst (IsHistory s.roster s.index) same (history_more s.roster s.index now call own was.is_history);
          keeps = subst (λ l. Keeps l (after_call s call)) same (keeps-more now s call was.keeps);
        }

-- and a trim leaves it
pub began_trim : (first s : State) → BeganAs first s → BeganAs first (after_trim s)
began_trim first s began = record { goes_on = λ h is keeps. left_by h (began.goes_on h is keeps) }
  where
    left_by : (h : List Entry) → BeginsWith h s → BeginsWith h (after_trim s)
    left_by h was =
        let now = h ++ was.more in
        record {
          more = was.more;
          is_history = was.is_history;
          keeps = record {
            made = was.keeps.made;
            left = subst (λ n. Leaves s.roster now (keep n (remains s))) (sym was.keeps.made) (leaves-trim s.roster now (remains s) was.keeps.left);
          };
        }

-- ---- what lies under a lock

-- a call keeps it
pub kept_call : {B : Type 0} (net : Network) (first : State) (k : ℕ) (s new : State) (call : Call) (book more : ShardBook B) → shard_of_call call ≡ k → new ≡ after_call s call → IsState new →
    shard_of_book more ≡ shard_of_book book → total_of_book more ≡ total_of_book book + 1 → IsKept net first k s book → IsKept net first k new more
kept_call net first k s new call book more own is state shard total kept = record {
  state = record { set_up = ap (λ (q : State). q.roster) is ∙ kept.state.set_up; index = ap (λ (q : State). q.index) is ∙ kept.state.index; state = state };
  book_of = shard ∙ kept.book_of;
  counted = omega (arith, total, kept.counted, ap (λ (q : State). q.made) is);
  began = subst (BeganAs first) (sym is) (began_call first s call (own ∙ sym kept.state.index) kept.began);
}

-- and so does a trim, made or refused
pub kept_trim : {B T F : Type 0} (net : Network) (first : State) (k : ℕ) (s new : State) (book : ShardBook B) (r : Result T F) → OnOk r (new ≡ after_trim s) → OnErr r (new ≡ s) → IsState new →
    IsKept net first k s book → IsKept net first k new book
kept_trim net first k s new book (Ok d) made refused state kept = record {
  state = record { set_up = ap (λ (q : State). q.roster) made ∙ kept.state.set_up; index = ap (λ (q : State). q.index) made ∙ kept.state.index; state = state };
  book_of = kept.book_of;
  counted = kept.counted ∙ sym (ap (λ (q : State). q.made) made);
  began = subst (BeganAs first) (sym made) (began_trim first s kept.began);
}
kept_trim net first k s new book (Err why) made refused state kept = subst (λ q. IsKept net first k q book) (sym refused) kept

-- what a trim tells is of a state of the shard
pub trim_told : {F : Type 0} (net : Network) (k : ℕ) (s : State) (r : Result Dropped F) → IsStateOf net k s → IfOk r (λ d. d.mark ≡ s.made) → IfOk r (λ d. d.entries.items ≡ dropped s) → IfOk r (IsTrimOf net k)
trim_told net k s (Ok d) is mark entries = record { before = s; is_state = is; mark = mark; entries = entries }
trim_told net k s (Err why) is mark entries = tt

-- a shard with which a server begins may be put under its lock, with a book that has counted nothing
pub kept_first : {B : Type 0} (net : Network) (begun : ℕ → State) (k : ℕ) (s : State) (book : ShardBook B) → ((begun k).roster ≡ net) × ((begun k).index ≡ k) → s ≡ begun k → IsState s → shard_of_book book ≡ k → total_of_book book ≡ 0 →
    IsKept net (begun k) k s book
kept_first net begun k s book placed is state own none = record {
  state = record { set_up = ap (λ (q : State). q.roster) is ∙ placed.0; index = ap (λ (q : State). q.index) is ∙ placed.1; state = state };
  book_of = own;
  counted = omega (arith, none, ap (λ (q : State). q.made) is);
  began = subst (λ q. BeganAs q s) is (began_self s);
}

-- ---- the sixteen with which a server begins

-- sixteen with no entries
pub first_new : (net : Network) (begun : ℕ → State) (ss : List State) → begun ≡ no_entries net → ss ≡ new_states net shard_count → AreFirst net begun shard_count ss
first_new net begun ss is new = record {
  below = new ∙ ap (λ state. states_below state shard_count) (sym is);
  placed = subst (IsPlaced net) (sym is) (λ k. (refl, refl));
}

placed_at : (net : Network) (ss : List State) → ArePlaced net ss → IsPlaced net (states_at net ss)
placed_at net ss are k = rw (← unwrap_or-slice_get ss k (no_entries net k)) (pick (slice_get ss k) refl)
  where
    pick : (o : Option State) → slice_get ss k ≡ o → ((unwrap_or o (no_entries net k)).roster ≡ net) × ((unwrap_or o (no_entries net k)).index ≡ k)
    pick None at = (refl, refl)
    pick (Some s) at = are k s at

below_take : (net : Network) (ss : List State) (n : ℕ) → n ≤ length ss → take n ss ≡ states_below (states_at net ss) n
below_take net ss zero fits = refl
below_take net ss (suc n) fits =
    take-suc ss n (no_entries net n) (omega (arith, fits)) ∙ ap (λ l. l ++ get_or ss n (no_entries net n) ∷ []) (below_take net ss n (omega (arith, fits)))

-- sixteen shards are those at their places
pub first_at : (net : Network) (begun : ℕ → State) (ss : List State) → begun ≡ states_at net ss → length ss ≡ shard_count → ArePlaced net ss → AreFirst net begun shard_count ss
first_at net begun ss is sixteen are = subst (λ state. AreFirst net state shard_count ss) (sym is) (record {
  below = sym (take_all shard_count ss (omega (arith, sixteen))) ∙ below_take net ss shard_count (omega (arith, sixteen));
  placed = placed_at net ss are;
})
