-- The lines of a source, as its blocks are read.
use Rattle.std.proofs.Common.{◌≡◌, ℕ, ◌+◌, ◌-◌, ◌≤◌, ◌<◌, Bool, true, false, List, [], ◌∷◌, ◌++◌, length, Option, None, Some, option_map, refl, sym, ap, ◌∙◌, subst, arith, eqb, take, drop, take-take, drop-drop}
use Rattle.std.specs.Prelude.{map, position}
use Rattle.std.specs.List.{slice_range}
use Rattle.std.proofs.lemmas.Grind.{common_steps}
use Rattle.std.specs.Io.KnownBytes.{Consumes, IsAtEnd}
use Rattle.std.proofs.lemmas.List.{append_assoc, append-nil, drop-take}
use Rattle.ns_acts.specs.declared.step.Step.{Step}
use Rattle.ns_runs.specs.Lines.{Gives, Advances}
use Rattle.ns_runs.proofs.LineSteps.{gives-more, gives-all}
use Rattle.ns_steps.specs.StepLines.{step, step_of}
use Rattle.ns_steps.proofs.LineLemmas.{feed_at, unended_before, raw_lines_nil, raw_lines_ended, raw_lines_last}
use Rattle.ns_replay.specs.Output.{step_lines}
use Rattle.ns_replay.specs.Private.Read.{ReadText, Unended, left_by, lines_left}

-- the step of a line
abbrev pub step_in : List ℕ → Option Step
step_in line = option_map step_of (step line)

abbrev of_raw : List (List ℕ) → List (Option Step)
of_raw lines = map (option_map step_of) (map step lines)

lines-nil : step_lines [] ≡ []
lines-nil = ap of_raw raw_lines_nil

lines-ended : (line more : List ℕ) → Unended line → step_lines (line ++ 10 ∷ more) ≡ step_in line ∷ step_lines more
lines-ended line more unended = ap of_raw (raw_lines_ended line more unended)

lines-last : (line : List ℕ) → 0 < length line → Unended line → step_lines line ≡ step_in line ∷ []
lines-last line some unended = ap of_raw (raw_lines_last line some unended)

-- ---- parts of a block

pub take-range : (xs : List ℕ) (s e n : ℕ) → s + n ≤ e → take n (slice_range xs s e) ≡ slice_range xs s (s + n)
take-range xs s e n within =
    let count : s + n - s ≡ n = omega arith in
    take-take n (e - s) (drop s xs) (omega arith) ∙ ap (λ k. take k (drop s xs)) (sym count)

drop-range : (xs : List ℕ) (s e n : ℕ) → s + n ≤ e → drop n (slice_range xs s e) ≡ slice_range xs (s + n) e
drop-range xs s e n within =
    let count : e - s ≡ n + (e - (s + n)) = omega arith in
    ap (λ k. drop n (take k (drop s xs))) count
    ∙ drop-take n (e - (s + n)) (drop s xs)
    ∙ ap (take (e - (s + n))) (drop-drop n s xs)

length_range : (xs : List ℕ) (s e : ℕ) → s ≤ e → e ≤ length xs → length (slice_range xs s e) ≡ e - s
length_range xs s e ordered within = grind (arith, common_steps)

-- where a line ends in a block, it lies before the end of what was read
pub end-within : (xs : List ℕ) (s e n : ℕ) → s ≤ e → e ≤ length xs → n < length (slice_range xs s e) → s + n < e
end-within xs s e n ordered within less = omega (arith, length_range xs s e ordered within, less)

-- what is read, where a line ends behind n bytes of it
pub split-range : (xs : List ℕ) (s e n : ℕ) → s + n < e → position (λ b. eqb b 10) (slice_range xs s e) ≡ Some n
    → slice_range xs s e ≡ slice_range xs s (s + n) ++ 10 ∷ slice_range xs (s + n + 1) e
split-range xs s e n within at =
    let sum : s + (n + 1) ≡ s + n + 1 = omega arith in
    feed_at (slice_range xs s e) n at
    ∙ ap (λ l. l ++ 10 ∷ drop (n + 1) (slice_range xs s e)) (take-range xs s e n (omega (arith, within)))
    ∙ ap (λ l. slice_range xs s (s + n) ++ 10 ∷ l) (drop-range xs s e (n + 1) (omega (arith, within)) ∙ ap (λ k. slice_range xs k e) sum)

pub unended-range : (xs : List ℕ) (s e n : ℕ) → s + n < e → position (λ b. eqb b 10) (slice_range xs s e) ≡ Some n → Unended (slice_range xs s (s + n))
unended-range xs s e n within at = subst Unended (take-range xs s e n (omega (arith, within))) (unended_before (slice_range xs s e) n at)

-- ---- a line that ends in the block

gives-line : (e : Bool) (here rest : List ℕ) (o : Option (List ℕ)) → Unended here → Gives (left_by e (here ++ 10 ∷ rest) o) (left_by e rest o) (step_in here ∷ [])
gives-line true here rest o unended = lines-ended here rest unended
gives-line false here rest None unended = tt
gives-line false here rest (Some more) unended = ap step_lines (append_assoc here (10 ∷ rest) more) ∙ lines-ended here (rest ++ more) unended

pub found-line : (old new : ReadText) (o : Option (List ℕ)) → old.begun ++ old.block ≡ new.here ++ 10 ∷ new.block → Unended new.here → new.begun ≡ [] → new.ended ≡ old.ended
    → Gives (lines_left old o) (lines_left new o) (step_in new.here ∷ [])
found-line old new o split unended empty same =
    subst (λ t. Gives (left_by old.ended t o) (left_by new.ended (new.begun ++ new.block) o) (step_in new.here ∷ [])) (sym split)
    (subst (λ e. Gives (left_by old.ended (new.here ++ 10 ∷ new.block) o) (left_by e (new.begun ++ new.block) o) (step_in new.here ∷ [])) (sym same)
    (subst (λ b. Gives (left_by old.ended (new.here ++ 10 ∷ new.block) o) (left_by old.ended (b ++ new.block) o) (step_in new.here ∷ [])) (sym empty)
    (gives-line old.ended new.here new.block o unended)))

-- ---- nothing is given

gives-same : (a : Option (List (Option Step))) → Gives a a []
gives-same None = tt
gives-same (Some lines) = refl

-- what there is of a line goes from the block into the line
pub kept-part : (old new : ReadText) (o : Option (List ℕ)) → new.begun ≡ old.begun ++ old.block → new.block ≡ [] → new.ended ≡ old.ended
    → Gives (lines_left old o) (lines_left new o) []
kept-part old new o begun block same =
    let text : new.begun ++ new.block ≡ old.begun ++ old.block = ap (λ b. new.begun ++ b) block ∙ append-nil new.begun ∙ begun in
    subst (λ e. Gives (left_by old.ended (old.begun ++ old.block) o) (left_by e (new.begun ++ new.block) o) []) (sym same)
    (subst (λ t. Gives (left_by old.ended (old.begun ++ old.block) o) (left_by old.ended t o) []) (sym text)
    (gives-same (left_by old.ended (old.begun ++ old.block) o)))

-- a block is read
read-bytes : (begun bytes : List ℕ) (o p : Option (List ℕ)) → Consumes o p bytes → Gives (left_by false (begun ++ []) o) (left_by false (begun ++ bytes) p) []
read-bytes begun bytes None p consumed = tt
read-bytes begun bytes (Some x) None consumed = absurd consumed
read-bytes begun bytes (Some x) (Some y) consumed =
    ap step_lines (ap (λ b. b ++ x) (append-nil begun) ∙ ap (λ t. begun ++ t) consumed ∙ sym (append_assoc begun bytes y))

pub read-block : (old new : ReadText) (o p : Option (List ℕ)) → old.block ≡ [] → old.ended ≡ false → new.begun ≡ old.begun → new.ended ≡ old.ended → Consumes o p new.block
    → Gives (lines_left old o) (lines_left new p) []
read-block old new o p empty going begun same consumed =
    subst (λ b. Gives (left_by old.ended (old.begun ++ b) o) (left_by new.ended (new.begun ++ new.block) p) []) (sym empty)
    (subst (λ e. Gives (left_by e (old.begun ++ []) o) (left_by new.ended (new.begun ++ new.block) p) []) (sym going)
    (subst (λ e. Gives (left_by false (old.begun ++ []) o) (left_by e (new.begun ++ new.block) p) []) (sym (same ∙ going))
    (subst (λ b. Gives (left_by false (old.begun ++ []) o) (left_by false (b ++ new.block) p) []) (sym begun)
    (read-bytes old.begun new.block o p consumed))))

pub then-nothing : (a b c : Option (List (Option Step))) → Gives a b [] → Gives b c [] → Gives a c []
then-nothing None b c p q = tt
then-nothing (Some x) None c p q = absurd p
then-nothing (Some x) (Some y) None p q = absurd q
then-nothing (Some x) (Some y) (Some z) p q = p ∙ q

pub then-advances : (a b c : Option (List (Option Step))) (more : Bool) (line : Option Step) → Gives a b [] → Advances b c more line → Advances a c more line
then-advances a b c true line p q = gives-more a b c [] line p q
then-advances a b c false line p q = gives-all a b [] p q

-- ---- the end

-- all that is left is what was read, where the source is at its end
pub at-end : (old : ReadText) (o p : Option (List ℕ)) → old.block ≡ [] → old.ended ≡ false → Consumes o p [] → IsAtEnd p → Gives (lines_left old o) (Some (step_lines old.begun)) []
at-end old o p empty going consumed is_end =
    subst (λ b. Gives (left_by old.ended (old.begun ++ b) o) (Some (step_lines old.begun)) []) (sym empty)
    (subst (λ e. Gives (left_by e (old.begun ++ []) o) (Some (step_lines old.begun)) []) (sym going) (by o p consumed is_end))
  where
    by : (o p : Option (List ℕ)) → Consumes o p [] → IsAtEnd p → Gives (left_by false (old.begun ++ []) o) (Some (step_lines old.begun)) []
    by None p consumed is_end = tt
    by (Some x) None consumed is_end = absurd consumed
    by (Some x) (Some y) consumed is_end =
        ap step_lines (ap (λ b. b ++ x) (append-nil old.begun) ∙ ap (λ t. old.begun ++ t) (consumed ∙ is_end) ∙ append-nil old.begun)

pub was-at-end : (old : ReadText) (o : Option (List ℕ)) → old.block ≡ [] → old.ended ≡ true → Gives (lines_left old o) (Some (step_lines old.begun)) []
was-at-end old o empty ended =
    subst (λ b. Gives (left_by old.ended (old.begun ++ b) o) (Some (step_lines old.begun)) []) (sym empty)
    (subst (λ e. Gives (left_by e (old.begun ++ []) o) (Some (step_lines old.begun)) []) (sym ended) (ap step_lines (append-nil old.begun)))

-- what was read of a line is the last one, where there is any
pub last-line : (begun : List ℕ) (new : ReadText) (p : Option (List ℕ)) (more : Bool) → (more ≡ true → (0 < length begun) × Unended new.here × (new.here ≡ begun)) → (more ≡ false → begun ≡ [])
    → new.begun ≡ [] → new.block ≡ [] → new.ended ≡ true → Advances (Some (step_lines begun)) (lines_left new p) more (step_in new.here)
last-line begun new p false last none no_line no_block ended = ap step_lines (none refl) ∙ lines-nil
last-line begun new p true last none no_line no_block ended =
    let (some, unended, here) = last refl in
    subst (λ e. Gives (Some (step_lines begun)) (left_by e (new.begun ++ new.block) p) (step_in new.here ∷ [])) (sym ended)
    (subst (λ b. Gives (Some (step_lines begun)) (Some (step_lines (b ++ new.block))) (step_in new.here ∷ [])) (sym no_line)
    (subst (λ b. Gives (Some (step_lines begun)) (Some (step_lines b)) (step_in new.here ∷ [])) (sym no_block)
    (subst (λ l. step_lines begun ≡ step_in l ∷ step_lines []) (sym here)
    (lines-last begun some (subst Unended here unended) ∙ ap (λ ls. step_in begun ∷ ls) (sym lines-nil)))))
