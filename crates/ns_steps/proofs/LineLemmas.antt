-- Lines one after another.
use Rattle.std.proofs.Common.{◌≡◌, ℕ, ◌+◌, ◌<◌, ◌≤◌, Bool, true, false, cond, List, [], ◌∷◌, ◌++◌, length, take, drop, Some, None, refl, sym, ap, ◌∙◌, arith, eqb, ltb}
use Rattle.std.specs.List.{slice_split, position, position_or_len, All}
use borrow.Author.Tests.{eqb-true}
use Rattle.std.proofs.lemmas.Bool.{ltb-false}
use Rattle.std.proofs.lemmas.Bool.Decides.{nat_tests}
use Rattle.std.proofs.lemmas.List.{length-take-le, get_or-take, take-append-drop, drop_more}
use Rattle.std.proofs.lemmas.List.Quantifiers.{position-Some}
use Rattle.std.proofs.lemmas.List.Sums.{fails_before_first}
use Rattle.std.proofs.lemmas.List.Splits.{slice_split_at, slice_split_none, length-slice_split}
use Rattle.ns_steps.specs.StepLines.{raw_lines, without_empty_last}

-- no line feed stands in it
abbrev pub Unended : List ℕ → Type 0
Unended xs = All (λ b. eqb b 10 ≡ false) xs

pub raw_lines_nil : raw_lines [] ≡ []
unfolding raw_lines
raw_lines_nil = refl

first_part : (x : List ℕ) (parts : List (List ℕ)) → 0 < length parts → without_empty_last (x ∷ parts) ≡ x ∷ without_empty_last parts
first_part x [] h = absurd (omega arith)
first_part x (y ∷ more) h = refl

one_part : (x : List ℕ) → 0 < length x → without_empty_last (x ∷ []) ≡ x ∷ []
one_part x h = grind (arith, nat_tests)

-- a line ends at its line feed
pub raw_lines_ended : (line more : List ℕ) → Unended line → raw_lines (line ++ 10 ∷ more) ≡ line ∷ raw_lines more
unfolding raw_lines
raw_lines_ended line more h =
    let lf : ℕ → Bool = λ b. eqb b 10 in
    ap without_empty_last (slice_split_at lf line 10 more h refl)
    ∙ first_part line (slice_split lf more) (omega (arith, length-slice_split lf more))

-- where there is no line feed, the text is the one line
pub raw_lines_last : (line : List ℕ) → 0 < length line → Unended line → raw_lines line ≡ line ∷ []
unfolding raw_lines
raw_lines_last line some h = ap without_empty_last (slice_split_none (λ b. eqb b 10) line h) ∙ one_part line some

at_none : (b : Bool) (n : ℕ) → cond b (Some n) None ≡ None → b ≡ false
at_none true n h = cc
at_none false n h = refl

-- what stands before the first line feed
pub unended_before : (xs : List ℕ) (i : ℕ) → position (λ b. eqb b 10) xs ≡ Some i → Unended (take i xs)
unended_before xs i h k d within =
    let found = position-Some (λ b. eqb b 10) xs i d h in
    let long = length-take-le i xs (omega (arith, found.0)) in
    ap (λ b. eqb b 10) (get_or-take i xs k d (omega (arith, long, within))) ∙ found.2 k (omega (arith, long, within))

-- the text is what stands before the first such byte, the byte, and what stands behind it
pub byte_at : (byte : ℕ) (xs : List ℕ) (i : ℕ) → position (λ b. eqb b byte) xs ≡ Some i → xs ≡ take i xs ++ byte ∷ drop (i + 1) xs
byte_at byte xs i h =
    let found = position-Some (λ b. eqb b byte) xs i 0 h in
    sym (take-append-drop i xs)
    ∙ ap (λ l. take i xs ++ l) (drop_more xs i 0 found.0)
    ∙ ap (λ b. take i xs ++ b ∷ drop (i + 1) xs) (eqb-true _ _ found.1)

pub feed_at : (xs : List ℕ) (i : ℕ) → position (λ b. eqb b 10) xs ≡ Some i → xs ≡ take i xs ++ 10 ∷ drop (i + 1) xs
feed_at = byte_at 10

pub unended_all : (xs : List ℕ) → position (λ b. eqb b 10) xs ≡ None → Unended xs
unended_all xs h k d within =
    let lf : ℕ → Bool = λ b. eqb b 10 in
    let past : length xs ≤ position_or_len lf xs = ltb-false _ _ (at_none (ltb (position_or_len lf xs) (length xs)) (position_or_len lf xs) h) in
    fails_before_first lf xs k d (omega (arith, past, within))
