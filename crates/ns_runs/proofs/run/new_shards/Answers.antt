use Rattle.std.proofs.Common.{◌≡◌, ℕ, zero, suc, refl, ◌<◌, ◌+◌, ◌++◌, ◌∷◌, [], length, slice_get, Some, arith, ap, ◌∙◌, length-append, inl, inr, List, subst}
use Rattle.std.specs.Arc.{arc_value}
use Rattle.std.proofs.lemmas.Bool.Decides.{eqb_tells}
use Rattle.ns_roster.specs.Network.{Network}
use Rattle.ns_shard.specs.State.{State, no_entries}
use Rattle.ns_runs.proofs.run.new_shards.Goals as goal
use Rattle.ns_shard.proofs.Maps.{at-front}

at_push : (xs : List State) (y : State) (k : ℕ) → k < length xs → slice_get (xs ++ y ∷ []) k ≡ slice_get xs k
at_push [] y k h = absurd (omega arith)
at_push (x ∷ xs) y zero h = refl
at_push (x ∷ xs) y (suc k) h = at_push xs y k (omega (arith, h))

-- the list with the next shard
more : (net : Network) (list : List State) (n : ℕ) → length list ≡ n → ((k : ℕ) → k < n → slice_get list k ≡ Some (no_entries net k)) → (k : ℕ) → k < n + 1 → slice_get (list ++ no_entries net n ∷ []) k ≡ Some (no_entries net k)
more net list n is each k h = elim (eqb_tells k n) [
  | inl same ↦ rw same.1 (subst (λ m. slice_get (list ++ no_entries net n ∷ []) m ≡ Some (no_entries net n)) is (at-front list [] (no_entries net n)))
  | inr other ↦ at_push list (no_entries net n) k (omega (arith, is, h, other.1)) ∙ each k (omega (arith, h, other.1))
]

pub shards-preserved : goal.shards-preserved
shards-preserved c =
    let net = arc_value c.args.roster in
    let pushed : c.push.new.self.items ≡ c.shards.list.items ++ no_entries net c.shards.index ∷ [] = c.in_ok-push.ensures.items ∙ ap (λ s. c.shards.list.items ++ s ∷ []) (c.in_ok-shard.ensures ∙ ap (λ r. no_entries r c.shards.index) c.in_ok-clone.ensures.cases) in
    record {
      made = ap length pushed ∙ length-append c.shards.list.items _ ∙ ap (λ n. n + 1) c.shards.invariant.made;
      each = λ k h. ap (λ l. slice_get l k) pushed ∙ more net c.shards.list.items c.shards.index c.shards.invariant.made c.shards.invariant.each k h;
    }
