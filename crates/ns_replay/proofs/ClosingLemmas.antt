-- The closing line, and the whole text.
use Rattle.std.proofs.Common.{◌≡◌, ℕ, Bool, true, false, cond, List, [], ◌∷◌, ◌++◌, map, flat_map, Option, None, Some, option_map, IfSome, refl, sym, ap, ap₂, ◌∙◌, subst}
use Rattle.std.specs.Io.KnownBytes.{Appends}
use Rattle.ns_types.specs.declared.identity.DevNonce.{DevNonce}
use Rattle.ns_types.specs.declared.identity.DevEui.{DevEui}
use Rattle.ns_roster.specs.declared.Device.{Device}
use Rattle.ns_roster.specs.Network.{Network}
use Rattle.ns_roster.specs.Closing.{with_nonces, network_text, nonce_by, with_greatest}
use Rattle.ns_shard.specs.State.{State}
use Rattle.ns_acts.specs.declared.step.Step.{Step}
use Rattle.ns_runs.specs.NextRun.{greatest_among, greatest_after, closing_roster}
use Rattle.ns_runs.specs.declared.run.Taken.{Taken}
use Rattle.ns_runs.specs.Lines.{HasAll, steps_in, told_of}
use Rattle.ns_runs.specs.Whole.{IsRun, HasRun}
use Rattle.ns_output.specs.declared.output.Output.{Output}
use Rattle.ns_replay.specs.Output.{closing_line, output, step_lines, text_of, text_for, IsReplay}
use Rattle.ns_steps.specs.StepLines.{ended}
use Rattle.ns_replay.specs.Private.Read.{ReadText, left_by, lines_left}

-- the nonces that the shards have are those after the steps
nonces-after : (net : Network) (done : List Step) (shards : List State) → ((eui : DevEui) → greatest_among shards eui ≡ greatest_after net done eui)
    → with_greatest net (greatest_among shards) ≡ closing_roster net done
nonces-after net done shards same = ap (with_nonces net) (each net.devices)
  where
    each : (ds : List Device) → map (nonce_by (greatest_among shards)) ds ≡ map (nonce_by (greatest_after net done)) ds
    each [] = refl
    each (d ∷ ds) = ap₂ (λ (o : Option DevNonce) os. o ∷ os) (ap (option_map (λ (n : ℕ). let x : DevNonce = record { 0 = n } in x)) (same d.eui)) (each ds)

closing-after : (closing : Bool) (net : Network) (done : List Step) (shards : List State) → ((eui : DevEui) → greatest_among shards eui ≡ greatest_after net done eui)
    → cond closing (ended (network_text (with_greatest net (greatest_among shards)))) [] ≡ closing_line closing net done
closing-after true net done shards same = ap (λ n. ended (network_text n)) (nonces-after net done shards same)
closing-after false net done shards same = refl

-- what is written of the lines that were left of a source, with the closing line behind it
pub replayed : (net : Network) (uplinks : Output) (closing : Bool) (start : ReadText) (o : Option (List ℕ)) (given : List (Option Step)) (told : List (Option Taken)) (shards : List State) (old new text : List ℕ)
    → start.begun ≡ [] → start.block ≡ [] → start.ended ≡ false → HasAll (lines_left start o) given → HasRun net true given told shards
    → old ≡ [] → new ≡ old ++ flat_map (text_of uplinks) told → text ≡ new ++ cond closing (ended (network_text (with_greatest net (greatest_among shards)))) []
    → IfSome o (λ input. IsReplay uplinks closing net input text)
replayed net uplinks closing start None given told shards old new text no_line no_block going all has none made put = tt
replayed net uplinks closing start (Some input) given told shards old new text no_line no_block going all has none made put =
    let left : HasAll (left_by false ([] ++ []) (Some input)) given =
    subst (λ b. HasAll (left_by false (b ++ []) (Some input)) given) no_line
    (subst (λ b. HasAll (left_by false (start.begun ++ b) (Some input)) given) no_block
    (subst (λ e. HasAll (left_by e (start.begun ++ start.block) (Some input)) given) going all)) in
    let is : step_lines input ≡ given = left in
    let greatest : (eui : DevEui) → greatest_among shards eui ≡ greatest_after net (steps_in (step_lines input)) eui =
    subst (λ ls. (eui : DevEui) → greatest_among shards eui ≡ greatest_after net (steps_in ls) eui) (sym is) has.greatest in
    let lines : new ≡ flat_map (text_of uplinks) (told_of (step_lines input) has.taken) =
    made ∙ ap (λ l. l ++ flat_map (text_of uplinks) told) none ∙ ap (flat_map (text_of uplinks)) (has.in_lines ∙ ap (λ ls. told_of ls has.taken) (sym is)) in
    record {
      taken = has.taken;
      whole = has.whole;
      run = subst (λ ls. IsRun net (steps_in ls) has.taken has.whole) (sym is) has.run;
      text = put ∙ ap₂ (λ a b. a ++ b) lines (closing-after closing net (steps_in (step_lines input)) shards greatest);
    }

-- it is what the definition says
pub replay-output : (net : Network) (uplinks : Output) (closing : Bool) (text : List ℕ) (o : Option (List ℕ))
    → IfSome o (λ input. IsReplay uplinks closing net input text) → IfSome o (λ input. text ≡ output uplinks closing net input)
replay-output net uplinks closing text None is = tt
replay-output net uplinks closing text (Some input) is = is.text ∙ ap (text_for uplinks closing net input) is.run.all

-- and so is what is written
pub replay-written : (net : Network) (uplinks : Output) (closing : Bool) (a b : Option (List ℕ)) (text : List ℕ) (o : Option (List ℕ))
    → IfSome o (λ input. IsReplay uplinks closing net input text) → Appends a b text
    → IfSome o (λ input. (written : List ℕ) × IsReplay uplinks closing net input written × Appends a b written)
replay-written net uplinks closing a b text None is appended = tt
replay-written net uplinks closing a b text (Some input) is appended = (text, is, appended)
