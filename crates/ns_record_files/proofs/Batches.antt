-- One batch more, whole or in part.
use Rattle.std.proofs.Common.{◌≡◌, ℕ, List, [], ◌∷◌, ◌++◌, Option, None, Some, refl, sym, ap, subst, ◌∙◌, append_assoc, append-nil}
use Rattle.std.specs.Prelude.{All}
use Rattle.std.specs.Option.{option_map}
use Rattle.std.proofs.lemmas.Grind.{flat_map-append}
use Rattle.std.proofs.lemmas.List.Elements.{All-cons, All-nil, All-weaker}
use Rattle.ns_record_files.specs.Disk.{Files, Moments, all_moments, IsFront, MayLeave, moves, with_steps, with_ups, all_safe}
use Rattle.ns_record_files.specs.Record.{Batch, all_steps, all_ups, IsRecorded, IsLeft, IsWhole, HasAll, HasBeen, GoesOnKnown}
use Rattle.ns_record_files.proofs.Fronts.{front_all, front-trans}

steps_push : (batches : List Batch) (b : Batch) → all_steps (batches ++ b ∷ []) ≡ all_steps batches ++ b.steps
steps_push batches b =
    flat_map-append (λ (x : Batch). x.steps) batches (b ∷ []) ∙ ap (λ l. all_steps batches ++ l) (append-nil b.steps)

ups_push : (batches : List Batch) (b : Batch) → all_ups (batches ++ b ∷ []) ≡ all_ups batches ++ b.ups
ups_push batches b =
    flat_map-append (λ (x : Batch). x.ups) batches (b ∷ []) ∙ ap (λ l. all_ups batches ++ l) (append-nil b.ups)

-- a front behind what is whole
behind : (x all front rest more : List ℕ) → x ≡ all → front ++ rest ≡ more → (x ++ front) ++ rest ≡ all ++ more
behind x all front rest more same split =
    append_assoc x front rest ∙ ap (λ l. x ++ l) split ∙ ap (λ l. l ++ more) same

recorded-more : (batches : List Batch) (b : Batch) (f : Files) → IsRecorded batches f → IsRecorded (batches ++ b ∷ []) f
recorded-more batches b f is = record {
  done = is.done;
  others = is.others ++ b ∷ [];
  parts = ap (λ l. l ++ b ∷ []) is.parts ∙ append_assoc is.done is.others (b ∷ []);
  steps = front-trans f.steps (all_steps batches) (all_steps (batches ++ b ∷ [])) is.steps (b.steps, sym (steps_push batches b));
  safe = is.safe;
  ups = is.ups;
}

all-more : (batches : List Batch) (b : Batch) (fs : List Files) → All (IsRecorded batches) fs → All (IsRecorded (batches ++ b ∷ [])) fs
all-more batches b fs all = All-weaker (IsRecorded batches) (IsRecorded (batches ++ b ∷ [])) (recorded-more batches b) fs all

-- with a front of the steps of a batch
at_steps : (batches : List Batch) (b : Batch) (f : Files) (front : List ℕ) → IsWhole batches f → IsFront front b.steps → IsRecorded (batches ++ b ∷ []) (with_steps front f)
at_steps batches b f front whole is = record {
  done = batches;
  others = b ∷ [];
  parts = refl;
  steps = (is.0, behind f.steps (all_steps batches) front is.0 b.steps whole.steps is.1 ∙ sym (steps_push batches b));
  safe = front_all (all_steps batches) f.safe (sym whole.safe);
  ups = front_all f.ups (all_ups batches) whole.ups;
}

all_of_steps : (batches : List Batch) (b : Batch) (f : Files) → IsWhole batches f → f.steps ++ b.steps ≡ all_steps (batches ++ b ∷ [])
all_of_steps batches b f whole = ap (λ l. l ++ b.steps) whole.steps ∙ sym (steps_push batches b)

-- with all its steps, which are safe, and a front of its up lines
at_ups : (batches : List Batch) (b : Batch) (f : Files) (ups : List ℕ) → IsWhole batches f → IsFront ups (all_ups (batches ++ b ∷ []))
    → IsRecorded (batches ++ b ∷ []) (record { steps = f.steps ++ b.steps; safe = f.steps ++ b.steps; ups = ups })
at_ups batches b f ups whole is =
    let same = all_of_steps batches b f whole in
    record {
      done = batches ++ b ∷ [];
      others = [];
      parts = sym (append-nil (batches ++ b ∷ []));
      steps = front_all (f.steps ++ b.steps) (all_steps (batches ++ b ∷ [])) same;
      safe = front_all (all_steps (batches ++ b ∷ [])) (f.steps ++ b.steps) (sym same);
      ups = is;
    }

front_of_ups : (batches : List Batch) (b : Batch) (f : Files) (front : List ℕ) → IsWhole batches f → IsFront front b.ups → IsFront (f.ups ++ front) (all_ups (batches ++ b ∷ []))
front_of_ups batches b f front whole is =
    (is.0, behind f.ups (all_ups batches) front is.0 b.ups whole.ups is.1 ∙ sym (ups_push batches b))

no_ups : (batches : List Batch) (b : Batch) (f : Files) → IsWhole batches f → IsFront f.ups (all_ups (batches ++ b ∷ []))
no_ups batches b f whole = (b.ups, ap (λ l. l ++ b.ups) whole.ups ∙ sym (ups_push batches b))

at_whole : (batches : List Batch) (b : Batch) (f : Files) → IsWhole batches f → IsWhole (batches ++ b ∷ []) (with_ups b.ups (all_safe (with_steps b.steps f)))
at_whole batches b f whole =
    let same = all_of_steps batches b f whole in
    record { steps = same; safe = same; ups = ap (λ l. l ++ b.ups) whole.ups ∙ sym (ups_push batches b) }

-- the steps that were safe stay so
stays : (batches : List Batch) (f : Files) → IsWhole batches f → IsFront (all_steps batches) f.safe
stays batches f whole = front_all (all_steps batches) f.safe (sym whole.safe)

stays_more : (batches : List Batch) (b : Batch) (f : Files) → IsWhole batches f → IsFront (all_steps batches) (f.steps ++ b.steps)
stays_more batches b f whole = (b.steps, ap (λ l. l ++ b.steps) (sym whole.steps))

abbrev Stays : List Batch → Files → Type 0
Stays batches f = IsFront (all_steps batches) f.safe

-- a front of the steps was appended
pub torn_at_steps : (batches : List Batch) (b : Batch) (old new : Option Moments) (front : List ℕ) → HasAll batches old → IsFront front b.steps
    → new ≡ option_map (moves (with_steps front)) old → GoesOnKnown batches b old new
torn_at_steps batches b None new front has is same = same
torn_at_steps batches b (Some ms) new front has is same = (
  moves (with_steps front) ms,
  same,
  record {
    later = with_steps front ms.now ∷ [];
    moments = refl;
    stays = All-cons (Stays batches) (with_steps front ms.now) [] (stays batches ms.now has.1) (All-nil (Stays batches));
    recorded =
        All-cons (IsRecorded (batches ++ b ∷ [])) (with_steps front ms.now) (all_moments ms)
        (at_steps batches b ms.now front has.1 is)
        (all-more batches b (all_moments ms) has.0);
  },
)

-- all steps were appended
pub all_steps_there : (batches : List Batch) (b : Batch) (old mid new : Option Moments) → HasAll batches old
    → mid ≡ option_map (moves (with_steps b.steps)) old → new ≡ mid → GoesOnKnown batches b old new
all_steps_there batches b old mid new has first same =
    torn_at_steps batches b old new b.steps has (front_all b.steps b.steps refl) (same ∙ first)

-- the moments since the writer began with the batch
abbrev since : Batch → List ℕ → Moments → Moments
since b front ms = moves (with_ups front) (moves all_safe (moves (with_steps b.steps) ms))

since_known : (b : Batch) (ms : Moments) (one two new : Option Moments) (front : List ℕ)
    → one ≡ option_map (moves (with_steps b.steps)) (Some ms) → two ≡ option_map (moves all_safe) one
    → new ≡ option_map (moves (with_ups front)) two → new ≡ Some (since b front ms)
since_known b ms one two new front first second third =
    third ∙ ap (option_map (moves (with_ups front))) (second ∙ ap (option_map (moves all_safe)) first)

since_recorded : (batches : List Batch) (b : Batch) (ms : Moments) (front : List ℕ) → HasAll batches (Some ms) → IsFront front b.ups
    → All (IsRecorded (batches ++ b ∷ [])) (all_moments (since b front ms))
since_recorded batches b ms front has is =
    let P = IsRecorded (batches ++ b ∷ []) in
    let f = ms.now in
    let one : Files = with_steps b.steps f in
    let two : Files = all_safe one in
    All-cons P (with_ups front two) (two ∷ one ∷ all_moments ms)
    (at_ups batches b f (f.ups ++ front) has.1 (front_of_ups batches b f front has.1 is))
    (All-cons P two (one ∷ all_moments ms)
    (at_ups batches b f f.ups has.1 (no_ups batches b f has.1))
    (All-cons P one (all_moments ms)
    (at_steps batches b f b.steps has.1 (front_all b.steps b.steps refl))
    (all-more batches b (all_moments ms) has.0)))

since_stays : (batches : List Batch) (b : Batch) (ms : Moments) (front : List ℕ) → IsWhole batches ms.now
    → All (Stays batches) (with_ups front (all_safe (with_steps b.steps ms.now)) ∷ all_safe (with_steps b.steps ms.now) ∷ with_steps b.steps ms.now ∷ [])
since_stays batches b ms front whole =
    let P = Stays batches in
    let one : Files = with_steps b.steps ms.now in
    let two : Files = all_safe one in
    All-cons P (with_ups front two) (two ∷ one ∷ [])
    (stays_more batches b ms.now whole)
    (All-cons P two (one ∷ []) (stays_more batches b ms.now whole)
    (All-cons P one [] (stays batches ms.now whole) (All-nil P)))

-- all steps were appended, and a front of the up lines
pub torn_at_ups : (batches : List Batch) (b : Batch) (old one two new : Option Moments) (front : List ℕ) → HasAll batches old → IsFront front b.ups
    → one ≡ option_map (moves (with_steps b.steps)) old → two ≡ option_map (moves all_safe) one
    → new ≡ option_map (moves (with_ups front)) two → GoesOnKnown batches b old new
torn_at_ups batches b None one two new front has is first second third =
    third ∙ ap (option_map (moves (with_ups front))) (second ∙ ap (option_map (moves all_safe)) first)
torn_at_ups batches b (Some ms) one two new front has is first second third = (
  since b front ms,
  since_known b ms one two new front first second third,
  record {
    later = with_ups front (all_safe (with_steps b.steps ms.now)) ∷ all_safe (with_steps b.steps ms.now) ∷ with_steps b.steps ms.now ∷ [];
    moments = refl;
    stays = since_stays batches b ms front has.1;
    recorded = since_recorded batches b ms front has is;
  },
)

-- all was appended
pub all_there : (batches : List Batch) (b : Batch) (old one two new : Option Moments) → HasAll batches old
    → one ≡ option_map (moves (with_steps b.steps)) old → two ≡ option_map (moves all_safe) one
    → new ≡ option_map (moves (with_ups b.ups)) two → HasAll (batches ++ b ∷ []) new
all_there batches b None one two new has first second third =
    subst (HasAll (batches ++ b ∷ [])) (sym (third ∙ ap (option_map (moves (with_ups b.ups))) (second ∙ ap (option_map (moves all_safe)) first))) tt
all_there batches b (Some ms) one two new has first second third =
    subst (HasAll (batches ++ b ∷ [])) (sym (since_known b ms one two new b.ups first second third))
    (since_recorded batches b ms b.ups has (front_all b.ups b.ups refl), at_whole batches b ms.now has.1)

-- what has gone on with a batch has been no more than it and those before it
pub been_since : (batches : List Batch) (b : Batch) (old new : Option Moments) → GoesOnKnown batches b old new → HasBeen (batches ++ b ∷ []) new
been_since batches b None new goes = subst (HasBeen (batches ++ b ∷ [])) (sym goes) tt
been_since batches b (Some ms) new goes = subst (HasBeen (batches ++ b ∷ [])) (sym goes.1) goes.2.recorded

-- ---- what a crash leaves

pub left : (batches : List Batch) (f : Files) (steps ups : List ℕ) → IsRecorded batches f → MayLeave f steps ups → IsLeft batches steps ups
left batches f steps ups is may = record {
  done = is.done;
  others = is.others;
  parts = is.parts;
  steps = front-trans steps f.steps (all_steps batches) may.steps is.steps;
  whole = front-trans (all_steps is.done) f.safe steps is.safe may.safe;
  ups = front-trans ups f.ups (all_ups is.done) may.ups is.ups;
}
