use Rattle.std.proofs.Common.{◌≡◌, ◌<◌, ◌+◌, ℕ, List, length, get_or, set, sym, ap, ◌∙◌, subst, arith}
use Rattle.std.proofs.lemmas.Grind.{get_or-set_at}
use Rattle.std.proofs.lemmas.List.{get_or-set_other, length-set}
use Rattle.ns_serve_shards.specs.declared.trims.Trimmed.{Trimmed}
use Rattle.ns_serve_shards.specs.declared.trims.Trimmed.TheVariants.{NotDue}
use Rattle.ns_serve_shards.specs.Trims.{IsTold, mark_after}
use Rattle.ns_serve_shards.proofs.trims.trim_due.Goals as goal
use borrow.Author.Count.{below_more}

-- what holds of each thing that stands at a place below one holds below the next, once something of which it holds is written there
written : {X : Type 0} (P : ℕ → X → Type 0) (xs : List X) (place shard : ℕ) (y d : X) → place ≡ shard → shard < length xs → ((k : ℕ) → k < shard → P k (get_or xs k d)) → P shard y → (k : ℕ) → k < shard + 1 → P k (get_or (set xs place y) k d)
written P xs place shard y d same within before here =
    below_more (λ (k : ℕ). P k (get_or (set xs place y) k d)) shard
    (λ k below. subst (P k) (sym (get_or-set_other xs place k y d (λ (e : k ≡ place). omega arith))) (before k below))
    (subst (P shard) (sym (get_or-set_at xs place shard y d (sym same) (omega arith))) here)

-- the same of the marks, beside what is told
marked : (old marks : List ℕ) (told : List Trimmed) (place shard mark : ℕ) (t : Trimmed) → place ≡ shard → shard < length marks → shard < length told → ((k : ℕ) → k < shard → get_or marks k 0 ≡ mark_after (get_or old k 0) (get_or told k NotDue)) → mark ≡ mark_after (get_or old place 0) t → (k : ℕ) → k < shard + 1 → get_or (set marks place mark) k 0 ≡ mark_after (get_or old k 0) (get_or (set told place t) k NotDue)
marked old marks told place shard mark t same in_marks in_told before here =
    written (λ (k : ℕ) (u : Trimmed). get_or (set marks place mark) k 0 ≡ mark_after (get_or old k 0) u) told place shard t NotDue same in_told
    (λ k below. get_or-set_other marks place k mark 0 (λ (e : k ≡ place). omega arith) ∙ before k below)
    (get_or-set_at marks place shard mark 0 (sym same) (omega arith) ∙ here ∙ ap (λ (p : ℕ). mark_after (get_or old p 0) t) same)

pub loop-shard-preserved : goal.loop-shard-preserved
loop-shard-preserved g c =
    let (every, marks, told, later, tells, after) = c.loop-shard.invariant in
    let place = c.from-place.result in
    let t = c.trim_if_due-trimmed.result in
    let mark = c.mark_after.result in (
      every,
      length-set c.loop-shard.trims.marks place mark ∙ marks,
      length-set c.loop-shard.told place t ∙ told,
      (λ k from. get_or-set_other c.loop-shard.trims.marks place k mark 0 (λ (e : k ≡ place). omega (arith, c.from-place.ensures)) ∙ later k (omega arith)),
      written (IsTold g.B.Naming.roster c.args.trims.now c.args.made.now) c.loop-shard.told place c.loop-shard.shard t NotDue c.from-place.ensures (omega (arith, told)) tells c.trim_if_due-trimmed.ensures,
      marked c.args.trims.now.marks c.loop-shard.trims.marks c.loop-shard.told place c.loop-shard.shard mark t c.from-place.ensures (omega (arith, marks)) (omega (arith, told)) after c.mark_after.ensures,
    )
