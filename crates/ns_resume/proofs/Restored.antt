-- Shards that are restored, one after the other.
use Rattle.std.proofs.Common.{◌≡◌, ℕ, ◌<◌, zero, suc, false, eqb, eq-eqb, cond, List, [], ◌∷◌, ◌++◌, length, length-append, slice_get, Some, refl, sym, ap, ◌∙◌, subst, arith, inl, inr}
use Rattle.std.proofs.lemmas.Bool.Decides.{eqb_tells}
use Rattle.std.proofs.lemmas.Option.{slice_get_within, same_Some}
use Rattle.ns_types.specs.Identity.{shard_count}
use Rattle.ns_roster.specs.Network.{Network}
use Rattle.ns_calls.specs.declared.call.Entry.{Entry}
use Rattle.ns_calls.specs.Legal.{IsHistory}
use Rattle.ns_shard.specs.State.{State, Keeps}
use Rattle.ns_shard.proofs.Maps.{at-front}
use Rattle.ns_checkpoint.specs.declared.tables.Tables.{Tables}
use Rattle.ns_checkpoint.specs.declared.tables.Checkpoint.{Checkpoint}
use Rattle.ns_runs.specs.KeptSteps.{AreHistories, IsKeptFrom, AreKeptFrom}
use Rattle.ns_runs.specs.Steps.{no_starts, AreAfter}
use Rattle.ns_runs.proofs.KeptSteps.{kept-whole}
use Rattle.ns_runs.proofs.RunHistories.{no_histories}
use Rattle.ns_resume.specs.declared.head.RecordHead.{RecordHead}
use Rattle.ns_resume.specs.declared.head.RecordHead.TheVariants.{Tabled}
use Rattle.ns_resume.specs.Head.{HasSixteen, AreToldBy, AreTablesOf, TellHead, AreStarts}
use Rattle.ns_resume.specs.Private.Restored.{IsRestored, AreRestored}

pub restored-none : (net : Network) (tables : List Tables) → AreRestored net tables []
restored-none net tables = record {
  starts = no_starts;
  histories = no_histories net;
  each = λ k s at. absurd (cc at);
  tell = λ k s t at of. absurd (cc at);
}

at_push : (xs : List State) (y : State) (k : ℕ) → k < length xs → slice_get (xs ++ y ∷ []) k ≡ slice_get xs k
at_push [] y k h = absurd (omega arith)
at_push (x ∷ xs) y zero h = refl
at_push (x ∷ xs) y (suc k) h = at_push xs y k (omega (arith, h))

-- a history more, in this place
abbrev with_start : ℕ → List Entry → (ℕ → List Entry) → ℕ → List Entry
with_start place h starts k = cond (eqb k place) h (starts k)

own-start : (n : ℕ) (h : List Entry) (f : ℕ → List Entry) (k : ℕ) → k ≡ n → with_start n h f k ≡ h
own-start n h f k same = ap (λ b. cond {A = List Entry} b h (f k)) (eq-eqb k n same)

other-start : (n : ℕ) (h : List Entry) (f : ℕ → List Entry) (k : ℕ) → eqb k n ≡ false → with_start n h f k ≡ f k
other-start n h f k other = ap (λ b. cond {A = List Entry} b h (f k)) other

histories-with : (net : Network) (n : ℕ) (h : List Entry) (f : ℕ → List Entry) → IsHistory net n h → AreHistories net f → AreHistories net (with_start n h f)
histories-with net n h f is are k = elim (eqb_tells k n) [
  | inl same ↦ subst (IsHistory net k) (sym (own-start n h f k same.1)) (subst (λ m. IsHistory net m h) (sym same.1) is)
  | inr other ↦ subst (IsHistory net k) (sym (other-start n h f k other.0)) (are k)
]

-- the next shard
module _ (net : Network) (tables : List Tables) (list : List State) (n : ℕ) (s : State) (t : Tables) (long : length list ≡ n) (so_far : AreRestored net tables list)
    (at : slice_get tables n ≡ Some t) (is : IsRestored net n t s) where
  own : (k : ℕ) (u : State) → k ≡ n → slice_get (list ++ s ∷ []) k ≡ Some u → s ≡ u
  own k u same found = same_Some s u (sym (at-front list [] s) ∙ (ap (slice_get (list ++ s ∷ [])) (long ∙ sym same) ∙ found))

  earlier : (k : ℕ) (u : State) → (k ≡ n → ⊥) → slice_get (list ++ s ∷ []) k ≡ Some u → slice_get list k ≡ Some u
  earlier k u other found =
      let within : k < length (list ++ s ∷ []) = slice_get_within (list ++ s ∷ []) k u found in
      sym (at_push list s k (by within)) ∙ found
    where
      by : k < length (list ++ s ∷ []) → k < length list
      by within = (let sum = length-append list (s ∷ []) in omega (arith, long, within, sum, other))

  abbrev begun : ℕ → List Entry
  begun = with_start n is.state.history so_far.starts

  history : IsHistory net n is.state.history
  history = subst (λ m. IsHistory m n is.state.history) is.roster (subst (λ m. IsHistory s.roster m is.state.history) is.index is.state.is_history)

  kept : (k : ℕ) (u : State) → slice_get (list ++ s ∷ []) k ≡ Some u → IsKeptFrom net begun [] k u
  kept k u found = elim (eqb_tells k n) [
    | inl same ↦ subst (IsKeptFrom net begun [] k) (own k u same.1 found) (record {
      roster = is.roster;
      index = is.index ∙ sym same.1;
      keeps = subst (λ h. Keeps h s) (sym (own-start n is.state.history so_far.starts k same.1)) is.state.keeps;
    })
    | inr other ↦
        let old = so_far.each k u (earlier k u other.1 found) in
        record { roster = old.roster; index = old.index; keeps = subst (λ h. Keeps h u) (sym (other-start n is.state.history so_far.starts k other.0)) old.keeps }
  ]

  told : AreToldBy net n is.state.history t
  told =
      subst (λ m. AreToldBy m n is.state.history t) is.roster
      (subst (λ m. AreToldBy s.roster m is.state.history t) is.index
      (record { devices = is.tables.devices is.state.history is.state.keeps; windows = is.tables.windows is.state.history is.state.keeps }))

  tells : (k : ℕ) (u : State) (v : Tables) → slice_get (list ++ s ∷ []) k ≡ Some u → slice_get tables k ≡ Some v → AreToldBy net k (begun k) v
  tells k u v found of = elim (eqb_tells k n) [
    | inl same ↦
        let table : t ≡ v = same_Some t v (sym at ∙ (ap (slice_get tables) (sym same.1) ∙ of)) in
        subst (AreToldBy net k (begun k)) table
        (subst (λ h. AreToldBy net k h t) (sym (own-start n is.state.history so_far.starts k same.1)) (subst (λ m. AreToldBy net m is.state.history t) (sym same.1) told))
    | inr other ↦ subst (λ h. AreToldBy net k h v) (sym (other-start n is.state.history so_far.starts k other.0)) (so_far.tell k u v (earlier k u other.1 found) of)
  ]

  pub restored-more : AreRestored net tables (list ++ s ∷ [])
  restored-more = record { starts = begun; histories = histories-with net n is.state.history so_far.starts history so_far.histories; each = kept; tell = tells }

-- ---- all sixteen

sixteen-kept : (net : Network) (tables : List Tables) (list : List State) (are : AreRestored net tables list) → length list ≡ shard_count → AreKeptFrom net are.starts [] list
sixteen-kept net tables list are sixteen = record { sixteen = sixteen; each = are.each }

-- the state at a place
state-at : (xs : List State) (k : ℕ) → k < length xs → (x : State) × (slice_get xs k ≡ Some x)
state-at [] k within = absurd (omega (arith, within))
state-at (x ∷ xs) zero within = (x, refl)
state-at (x ∷ xs) (suc k) within = state-at xs k (omega (arith, within))

tables-told : (net : Network) (tables : List Tables) (list : List State) (are : AreRestored net tables list) → length list ≡ shard_count → length tables ≡ shard_count → AreTablesOf net are.starts tables
tables-told net tables list are sixteen many = record {
  sixteen = many;
  each = λ k t of.
      let within : k < length tables = slice_get_within tables k t of in
      let (s, at) = state-at list k (omega (arith, within, sixteen, many)) in
      are.tell k s t at of;
}

-- ---- the shards with which a record begins

pub begins-tabled : (net : Network) (head : RecordHead) (checkpoint : Checkpoint) (list : List State) → head ≡ Tabled checkpoint → HasSixteen head
    → AreRestored net checkpoint.shards.items list × (length list ≡ shard_count) → (starts : ℕ → List Entry) × AreStarts net head starts × AreKeptFrom net starts [] list
begins-tabled net head checkpoint list is many (are, sixteen) =
    let of_head : AreStarts net (Tabled checkpoint) are.starts =
    record { histories = are.histories; tell = tables-told net checkpoint.shards.items list are sixteen (subst HasSixteen is many) } in (
      are.starts,
      subst (λ h. AreStarts net h are.starts) (sym is) of_head,
      sixteen-kept net checkpoint.shards.items list are sixteen,
    )

pub begins-empty : (net : Network) (head : RecordHead) (list : List State) → TellHead net no_starts head → AreAfter net [] list
    → (starts : ℕ → List Entry) × AreStarts net head starts × AreKeptFrom net starts [] list
begins-empty net head list tell after = (no_starts, record { histories = no_histories net; tell = tell }, kept-whole net [] list after)
