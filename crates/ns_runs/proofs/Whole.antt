-- The whole promise of a run.
use Rattle.std.proofs.Common.{◌≡◌, ℕ, ◌+◌, ◌<◌, zero, suc, Bool, false, List, [], ◌∷◌, ◌++◌, length, slice_get, map, flat_map, option_to_list, Option, Some, refl, sym, ap, ◌∙◌, subst, arith}
use Rattle.ns_types.specs.Identity.{shard_count}
use Rattle.ns_roster.specs.Network.{Network}
use Rattle.ns_acts.specs.declared.step.Step.{Step}
use Rattle.ns_shard.specs.State.{State, Keeps}
use Rattle.ns_runs.specs.KeptSteps.{AreKeptAfter}
use Rattle.ns_runs.specs.Steps.{all_taken, step_taken, state_after, AreAfter}
use Rattle.ns_types.specs.declared.identity.DevEui.{DevEui}
use Rattle.ns_runs.specs.declared.run.Taken.{Taken}
use Rattle.ns_runs.specs.NextRun.{greatest_among, greatest_after}
use Rattle.ns_runs.specs.Lines.{steps_in, told_of}
use Rattle.ns_runs.specs.Whole.{IsRun, HasRun}
use Rattle.ns_runs.proofs.KeptSteps.{greatest-kept}
use Rattle.ns_runs.proofs.LineSteps.{all_lines, all_lines-told}
use Rattle.ns_runs.proofs.RunHistories.{entries-after, histories-legal, histories-calls, histories-nonces, histories-counters, histories-acks, histories-windows, histories-within, all-hand_out}
use Rattle.ns_runs.proofs.RunTaken.{taken-copies, taken-entries, taken-once}

-- ---- the shards with their whole histories

-- so many of them, from this number on
abbrev states : Network → List Step → ℕ → ℕ → List State
states net steps k zero = []
states net steps k (suc n) = state_after net k steps ∷ states net steps (k + 1) n

length-states : (net : Network) (steps : List Step) (k n : ℕ) → length (states net steps k n) ≡ n
length-states net steps k zero = refl
length-states net steps k (suc n) = ap suc (length-states net steps (k + 1) n)

states-at : (net : Network) (steps : List Step) (k n i : ℕ) → i < n → slice_get (states net steps k n) i ≡ Some (state_after net (k + i) steps)
states-at net steps k zero i h = absurd (omega (arith, h))
states-at net steps k (suc n) zero h = (let e : k ≡ k + 0 = omega arith in ap (λ j. Some (state_after net j steps)) e)
states-at net steps k (suc n) (suc i) h =
    (let e : (k + 1) + i ≡ k + suc i = omega arith in
    states-at net steps (k + 1) n i (omega (arith, h)) ∙ ap (λ j. Some (state_after net j steps)) e)

abbrev whole_of : Network → List Step → List State
whole_of net steps = states net steps 0 shard_count

whole-after : (net : Network) (steps : List Step) → AreAfter net steps (whole_of net steps)
whole-after net steps = record {
  sixteen = length-states net steps 0 shard_count;
  each = λ shard small.
      let e : 0 + shard ≡ shard = omega arith in
      states-at net steps 0 shard_count shard small ∙ ap (λ j. Some (state_after net j steps)) e;
}

-- ---- the run

pub is-run : (net : Network) (steps : List Step) (whole : List State) → AreAfter net steps whole → IsRun net steps (all_taken net [] steps) whole
is-run net steps whole after = record {
  all = refl;
  shards = after;
  sixteen = after.sixteen;
  histories = histories-legal net steps whole after;
  calls = histories-calls net steps whole after;
  answers = taken-entries net steps whole after;
  nonces_rise = histories-nonces net steps whole after;
  counters_rise = histories-counters net steps whole after;
  acks_rise = histories-acks net steps whole after;
  uplinks = all-hand_out net [] steps;
  windows_open_once = histories-windows net steps whole after;
  nonces_within = histories-within net steps whole after;
  copies = taken-copies net steps whole after;
  handed_out_once = taken-once net steps;
}

pub has-run : (net : Network) (trims : Bool) (lines : List (Option Step)) (shards : List State) → AreKeptAfter net (steps_in lines) shards
    → (trims ≡ false → AreAfter net (steps_in lines) shards) → HasRun net trims lines (all_lines net [] lines) shards
has-run net trims lines shards are plain =
    let steps : List Step = steps_in lines in
    let after : AreAfter net steps (whole_of net steps) = whole-after net steps in
    record {
      taken = all_taken net [] steps;
      in_lines = all_lines-told net [] lines;
      whole = whole_of net steps;
      run = is-run net steps (whole_of net steps) after;
      kept = λ shard w s at_w at_s. subst (λ h. Keeps h s) (entries-after net steps (whole_of net steps) after shard w at_w) (are.each shard s at_s).keeps;
      after = are;
      greatest = greatest-kept net steps shards are;
      untrimmed = λ no_trim. is-run net steps shards (plain no_trim);
    }

-- ---- a list of steps

steps-listed : (steps : List Step) → steps_in (map Some steps) ≡ steps
steps-listed [] = refl
steps-listed (step ∷ steps) = ap (λ ss. step ∷ ss) (steps-listed steps)

told-listed : (net : Network) (before steps : List Step) → flat_map option_to_list (told_of (map Some steps) (all_taken net before steps)) ≡ all_taken net before steps
told-listed net before [] = refl
told-listed net before (step ∷ steps) = ap (λ ts. step_taken net before step ∷ ts) (told-listed net (before ++ step ∷ []) steps)

pub listed-run : (net : Network) (steps rest : List Step) (given : List (Option Step)) (told : List (Option Taken)) (shards : List State) (old items : List Taken)
    → rest ≡ steps → map Some rest ≡ given → HasRun net false given told shards → old ≡ [] → items ≡ old ++ flat_map option_to_list told → IsRun net steps items shards
listed-run net steps rest given told shards old items same all has none made =
    let lines : given ≡ map Some steps = sym all ∙ ap (map Some) same in
    let run : IsRun net steps has.taken shards = subst (λ ss. IsRun net ss has.taken shards) (ap steps_in lines ∙ steps-listed steps) (has.untrimmed refl) in
    let each : items ≡ has.taken =
    made
    ∙ ap (λ l. l ++ flat_map option_to_list told) none
    ∙ ap (flat_map option_to_list) (has.in_lines ∙ ap (λ ls. told_of ls has.taken) lines ∙ ap (told_of (map Some steps)) run.all)
    ∙ (told-listed net [] steps ∙ sym run.all) in
    subst (λ ts. IsRun net steps ts shards) (sym each) run

pub listed-greatest : (net : Network) (steps rest : List Step) (given : List (Option Step)) (told : List (Option Taken)) (shards : List State)
    → rest ≡ steps → map Some rest ≡ given → HasRun net false given told shards → (eui : DevEui) → greatest_among shards eui ≡ greatest_after net steps eui
listed-greatest net steps rest given told shards same all has =
    let lines : given ≡ map Some steps = sym all ∙ ap (map Some) same in
    subst (λ ss. (eui : DevEui) → greatest_among shards eui ≡ greatest_after net ss eui) (ap steps_in lines ∙ steps-listed steps) has.greatest
