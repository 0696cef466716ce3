-- How a step of a run ends.
use Rattle.std.proofs.Common.{◌≡◌, ℕ, zero, suc, List, [], ◌∷◌, slice_get, slice_set, Option, Some, option_map, Result, Ok, Err, IfOk, OnOk, OnErr, refl, sym, ap, ◌∙◌, subst}
use Rattle.std.proofs.lemmas.Option.{same_Some}
use Rattle.std.specs.declared.alloc.AllocError.{AllocError}
use Rattle.std.specs.Result.{IsErr, IsOk}
use Rattle.std.specs.Option.{option_map_or}
use Rattle.ns_calls.specs.declared.call.Call.{Call}
use Rattle.ns_calls.specs.declared.answer.Answer.{Answer}
use Rattle.ns_calls.specs.Steps.{Refusal}
use Rattle.ns_calls.specs.Shards.{shard_of_call}
use Rattle.ns_runs.specs.declared.run.Taken.{Taken}
use Rattle.ns_runs.specs.declared.run.Taken.TheVariants.{Made}
use Rattle.ns_shard.specs.State.{State, after_call, answer_in}
use Rattle.ns_runs.specs.Private.Run.{taken_in, states_after, refused_as, IsMade, StepEnds}

set-own : (states : List State) (index : ℕ) (s : State) → slice_get states index ≡ Some s → slice_set states index s ≡ states
set-own [] index s found = refl
set-own (x ∷ states) zero s found = ap (λ y. y ∷ states) (sym (same_Some x s found))
set-own (x ∷ states) (suc index) s found = ap (λ ys. x ∷ ys) (set-own states index s found)

module _ (states : List State) where
  pub refused-ends : (made : Result Call Taken) (after : List State) (r : Result Taken AllocError) → IsErr r → IsOk made → after ≡ states → StepEnds states made r after
  refused-ends made after (Ok what) failed is_call same = absurd (cc failed)
  refused-ends made after (Err e) failed is_call same = (is_call, same)

  -- a shard that is put back as it was
  pub kept-shard : (index : ℕ) (s next : State) → slice_get states index ≡ Some s → next ≡ s → slice_set states index next ≡ states
  kept-shard index s next found same = rw same (set-own states index s found)

  -- a step that makes no call
  pub none-made : {what : Taken} (made : Result Call Taken) → Err what ≡ made → IsMade states made what states
  none-made {what} made is = subst (λ (m : Result Call Taken). IsMade states m what states) is (record { taken = refl; shards = refl })

  -- one that makes this call
  pub call-ends : {c : Call} (made : Result Call Refusal) (r : Result Taken AllocError) (after : List State) → Ok c ≡ made → StepEnds states (Ok c) r after → StepEnds states (refused_as made) r after
  call-ends {c} made r after is ends = subst (λ (m : Result Call Refusal). StepEnds states (refused_as m) r after) is ends

  -- what a call makes in its shard
  pub call-made : (c : Call) (index : ℕ) (s next : State) (number : ℕ) (a : Answer) → index ≡ shard_of_call c → slice_get states index ≡ Some s → number ≡ s.made → a ≡ answer_in s c → next ≡ after_call s c
      → IsMade states (Ok c) (Made index number a) (slice_set states index next)
  call-made c index s next number a own found numbered answered changed =
      let there : slice_get states (shard_of_call c) ≡ Some s = ap (slice_get states) (sym own) ∙ found in
      rw (own, numbered, answered, changed) (record {
        taken = ap (option_map (λ (x : State). Made (shard_of_call c) x.made (answer_in x c))) there;
        shards = sym (ap (λ (o : Option State). option_map_or (λ (x : State). slice_set states (shard_of_call c) (after_call x c)) o states) there);
      })

pub ends-taken : (states : List State) (made : Result Call Taken) (r : Result Taken AllocError) (after : List State) → StepEnds states made r after → IfOk r (λ what. taken_in states made ≡ Some what)
ends-taken states made (Ok what) after ends = ends.taken
ends-taken states made (Err e) after ends = tt

pub ends-shards : (states : List State) (made : Result Call Taken) (r : Result Taken AllocError) (after : List State) → StepEnds states made r after → OnOk r (after ≡ states_after states made)
ends-shards states made (Ok what) after ends = ends.shards
ends-shards states made (Err e) after ends = tt

pub ends-same : (states : List State) (made : Result Call Taken) (r : Result Taken AllocError) (after : List State) → StepEnds states made r after → OnErr r (after ≡ states)
ends-same states made (Ok what) after ends = tt
ends-same states made (Err e) after ends = ends.1
