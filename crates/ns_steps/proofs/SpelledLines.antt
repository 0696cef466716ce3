-- The lines of a text are those that it spells.
use Rattle.std.proofs.Common.{◌≡◌, ℕ, zero, suc, ◌+◌, ◌<◌, ◌≤◌, List, [], ◌∷◌, ◌++◌, length, take, drop, Option, Some, None, refl, sym, ap, ◌∙◌, subst, arith, eqb, inl, inr, length-append}
use Rattle.std.specs.List.{position}
use Rattle.ns_steps.specs.StepLines.{raw_lines}
use Rattle.ns_steps.specs.Spelled.{AreLines}
use Rattle.ns_steps.proofs.LineLemmas.{raw_lines_nil, raw_lines_ended, raw_lines_last, unended_before, feed_at, unended_all}

are_lines : (most : ℕ) (text : List ℕ) → length text ≤ most → AreLines text (raw_lines text)
are_lines most [] few = subst (AreLines []) (sym raw_lines_nil) refl
are_lines zero (b ∷ text) few = absurd (omega (arith, few))
are_lines (suc most) (b ∷ text) few = step (position (λ c. eqb c 10) (b ∷ text)) refl (are_lines most)
  where
    step : (o : Option ℕ) → position (λ c. eqb c 10) (b ∷ text) ≡ o → ((rest : List ℕ) → length rest ≤ most → AreLines rest (raw_lines rest)) → AreLines (b ∷ text) (raw_lines (b ∷ text))
    step (Some i) at later =
        let line : List ℕ = take i (b ∷ text) in
        let rest : List ℕ = drop (i + 1) (b ∷ text) in
        let cut : b ∷ text ≡ line ++ 10 ∷ rest = feed_at (b ∷ text) i at in
        let long : length (line ++ 10 ∷ rest) ≡ length line + length (10 ∷ rest) = length-append line (10 ∷ rest) in
        let sum : length (b ∷ text) ≡ length line + length (10 ∷ rest) = ap length cut ∙ long in
        let fewer : length rest ≤ most = omega (arith, sum, few) in
        let lines : raw_lines (b ∷ text) ≡ line ∷ raw_lines rest = ap raw_lines cut ∙ raw_lines_ended line rest (unended_before (b ∷ text) i at) in
        subst (AreLines (b ∷ text)) (sym lines) (unended_before (b ∷ text) i at, inl (rest, cut, later rest fewer))
    step None at later =
        let none = unended_all (b ∷ text) at in
        let some : 0 < length (b ∷ text) = omega arith in
        subst (AreLines (b ∷ text)) (sym (raw_lines_last (b ∷ text) some none)) (none, inr (refl, some, refl))

pub lines-spelled : (text : List ℕ) (lines : List (List ℕ)) → raw_lines text ≡ lines → AreLines text lines
lines-spelled text lines is = subst (AreLines text) is (are_lines (length text) text (omega arith))

pub spelled-lines : (text : List ℕ) (lines : List (List ℕ)) → AreLines text lines → raw_lines text ≡ lines
spelled-lines text [] is = ap raw_lines is ∙ raw_lines_nil
spelled-lines text (line ∷ more) (none, inl (rest, is, later)) =
    ap raw_lines is ∙ (raw_lines_ended line rest none ∙ ap (λ l. line ∷ l) (spelled-lines rest more later))
spelled-lines text (line ∷ more) (none, inr (is, some, last)) =
    ap raw_lines is ∙ (raw_lines_last line some none ∙ ap (λ l. line ∷ l) (sym last))
