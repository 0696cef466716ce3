-- A list whose part of each shard is that shard's list is a merge of the lists.
use Rattle.std.proofs.Common.{◌≡◌, ℕ, zero, suc, ◌<◌, cond, eqb, List, [], ◌∷◌, length, Some, slice_get, slice_set, refl, sym, ap, ◌∙◌, subst, arith, inl, inr}
use Rattle.std.proofs.lemmas.Bool.{eq-eqb, cond-true, cond-false}
use Rattle.std.specs.List.{AllByRecursion}
use Rattle.std.proofs.lemmas.Bool.Decides.{eqb_tells}
use Rattle.std.proofs.lemmas.List.{length-set}
use Rattle.std.proofs.lemmas.Option.{slice_get_within, same_Some}
use Rattle.ns_calls.specs.declared.call.Entry.{Entry}
use Rattle.ns_calls.specs.Shards.{shard_of_call, of_shard, IsMerge, AreOfTheirShard}
use Rattle.ns_calls.specs.Merges.{IsMadeOf}
use Rattle.ns_calls.proofs.MergeLemmas.{slice_get-set_other, slice_get-set_same, filter-merge, own_rest}

there : {X : Type 0} (xs : List X) (k : ℕ) → k < length xs → (x : X) × (slice_get xs k ≡ Some x)
there [] k lt = absurd (omega (arith, lt))
there (y ∷ ys) zero lt = (y, refl)
there (y ∷ ys) (suc k) lt = there ys k (omega (arith, lt))

-- each element of a merge is of a shard that has a part
merge-within : (whole : List Entry) (parts : List (List Entry)) → IsMerge parts whole → AreOfTheirShard (λ (e : Entry). shard_of_call e.call) parts → AllByRecursion (λ e. shard_of_call e.call < length parts) whole
merge-within [] parts merge own = tt
merge-within (x ∷ xs) parts merge own =
    let k : ℕ = merge.0 in
    let is : shard_of_call x.call ≡ k = (own k (x ∷ merge.1) merge.2).0 in
    let rest = merge-within xs (slice_set parts k merge.1) merge.3 (own_rest (λ (e : Entry). shard_of_call e.call) parts k x merge.1 merge.2 own) in (
      subst (λ j. j < length parts) (sym is) (slice_get_within parts k (x ∷ merge.1) merge.2),
      subst (λ n. AllByRecursion (λ e. shard_of_call e.call < n) xs) (length-set parts k merge.1) rest,
    )

pub merge-made_of : (parts : List (List Entry)) (whole : List Entry) → AreOfTheirShard (λ (e : Entry). shard_of_call e.call) parts → IsMerge parts whole → IsMadeOf parts whole
merge-made_of parts whole own merge = record {
  each = λ k part at. filter-merge (λ (e : Entry). shard_of_call e.call) whole parts merge own k part at;
  all = merge-within whole parts merge own;
}

pub made_of-merge : (whole : List Entry) (parts : List (List Entry)) → IsMadeOf parts whole → IsMerge parts whole
made_of-merge [] parts made = λ k part at. sym (made.each k part at)
made_of-merge (x ∷ xs) parts made = (k, mine, at, made_of-merge xs (slice_set parts k mine) (record { each = each; all = rest_of }))
  where
    k : ℕ
    k = shard_of_call x.call

    mine : List Entry
    mine = of_shard k xs

    at : slice_get parts k ≡ Some (x ∷ mine)
    at = (let found = there parts k made.all.0 in found.1 ∙ ap Some (sym (made.each k found.0 found.1) ∙ cond-true (eqb k k) (x ∷ mine) mine (eq-eqb k k refl)))

    rest_of : AllByRecursion (λ e. shard_of_call e.call < length (slice_set parts k mine)) xs
    rest_of = subst (λ n. AllByRecursion (λ e. shard_of_call e.call < n) xs) (sym (length-set parts k mine)) made.all.1

    each : (j : ℕ) (part : List Entry) → slice_get (slice_set parts k mine) j ≡ Some part → of_shard j xs ≡ part
    each j part is = elim (eqb_tells k j) [
      | inl same ↦
          (let here : slice_get (slice_set parts k mine) j ≡ Some mine = subst (λ i. slice_get (slice_set parts k mine) i ≡ Some mine) same.1 (slice_get-set_same parts k (x ∷ mine) mine at) in
          ap (λ i. of_shard i xs) (sym same.1) ∙ same_Some mine part (sym here ∙ is))
      | inr other ↦
          (let old : slice_get parts j ≡ Some part = sym (slice_get-set_other parts k j mine (λ e. other.1 (sym e))) ∙ is in
          sym (cond-false (eqb k j) (x ∷ of_shard j xs) (of_shard j xs) other.0) ∙ made.each j part old)
    ]
