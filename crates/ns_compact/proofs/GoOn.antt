-- Shards with the same tables have the same answers to all later calls.
use Rattle.std.proofs.Common.{◌≡◌, ℕ, ◌<◌, zero, suc, List, [], ◌∷◌, length, slice_get, Some, refl, sym, ◌∙◌, subst, arith}
use Rattle.ns_types.specs.Identity.{shard_count}
use Rattle.ns_roster.specs.Network.{Network}
use Rattle.ns_roster.specs.Valid.{IsRoster}
use Rattle.ns_calls.specs.declared.call.Entry.{Entry}
use Rattle.ns_acts.specs.declared.step.Step.{Step}
use Rattle.ns_shard.specs.State.{State}
use Rattle.ns_shard.specs.Tables.{TellTheSame}
use Rattle.ns_shard.proofs.Tables.{later-same}
use Rattle.ns_runs.specs.KeptSteps.{AreHistories, IsKeptFrom, AreKeptFrom}
use Rattle.ns_runs.specs.Steps.{shard_history_from}
use Rattle.ns_runs.proofs.RunHistories.{history_from-is}
use Rattle.ns_compact.specs.Compact.{HaveSameTables, AllTellTheSame, GoOnTheSame}

-- the shard at a place
shard-at : {X : Type 0} (xs : List X) (k : ℕ) → k < length xs → (x : X) × (slice_get xs k ≡ Some x)
shard-at [] k within = absurd (omega (arith, within))
shard-at (x ∷ xs) zero within = (x, refl)
shard-at (x ∷ xs) (suc k) within = shard-at xs k (omega (arith, within))

same-at : (ss ts : List State) (k : ℕ) (s t : State) → AllTellTheSame ss ts → slice_get ss k ≡ Some s → slice_get ts k ≡ Some t → HaveSameTables s t
same-at [] [] k s t all at_s at_t = absurd (cc at_s)
same-at [] (y ∷ ts) k s t all at_s at_t = absurd all
same-at (x ∷ ss) [] k s t all at_s at_t = absurd all
same-at (x ∷ ss) (y ∷ ts) zero s t all at_s at_t = subst (λ a. HaveSameTables a t) (same_some x s at_s) (subst (λ b. HaveSameTables x b) (same_some y t at_t) all.0)
  where
    same_some : (a b : State) → Some a ≡ Some b → a ≡ b
    same_some a b e = cc
same-at (x ∷ ss) (y ∷ ts) (suc k) s t all at_s at_t = same-at ss ts k s t all.1 at_s at_t

-- two shards of one place
same-tables : (net : Network) (before starts : ℕ → List Entry) (told left : List Step) (k : ℕ) (s t : State) → IsKeptFrom net before told k s → IsKeptFrom net starts left k t → HaveSameTables s t
    → TellTheSame net k (shard_history_from net before k told) (shard_history_from net starts k left)
same-tables net before starts told left k s t is_s is_t same =
    let g : List Entry = shard_history_from net before k told in
    let h : List Entry = shard_history_from net starts k left in
    subst (λ n. TellTheSame n k g h) is_s.roster
    (subst (λ m. TellTheSame s.roster m g h) is_s.index (same (is_s.roster ∙ sym is_t.roster) (is_s.index ∙ sym is_t.index) g h is_s.keeps is_t.keeps))

pub go-on : (net : Network) → IsRoster net → (before starts : ℕ → List Entry) (told left : List Step) (old new : List State) → AreHistories net before → AreHistories net starts
    → AreKeptFrom net before told old → AreKeptFrom net starts left new → AllTellTheSame old new
    → GoOnTheSame net (λ k. shard_history_from net before k told) (λ k. shard_history_from net starts k left)
go-on net valid before starts told left old new of_before of_starts are_old are_new all = record {
  tables = tables;
  answers = λ k within calls own.
      later-same net valid k (shard_history_from net before k told) (shard_history_from net starts k left)
      (history_from-is net before of_before k told) (history_from-is net starts of_starts k left) (tables k within) calls own;
}
  where
    tables : (k : ℕ) → k < shard_count → TellTheSame net k (shard_history_from net before k told) (shard_history_from net starts k left)
    tables k within =
        let (s, at_s) = shard-at old k (subst (λ n. k < n) (sym are_old.sixteen) within) in
        let (t, at_t) = shard-at new k (subst (λ n. k < n) (sym are_new.sixteen) within) in
        same-tables net before starts told left k s t (are_old.each k s at_s) (are_new.each k t at_t) (same-at old new k s t all at_s at_t)
