-- Hex text in pieces.
use Rattle.std.proofs.Common.{◌≡◌, ℕ, ◌/◌, ◌%◌, ◌+◌, ◌<◌, List, [], ◌∷◌, ◌++◌, length, get_or, take, refl, ap, sym, ◌∙◌, append_assoc, append-nil}
use Rattle.std.proofs.lemmas.List.{take_more}
use Rattle.hex.specs.Hex.{encode_with}

pub encode_append : (t xs ys : List ℕ) → encode_with t (xs ++ ys) ≡ encode_with t xs ++ encode_with t ys
unfolding encode_with
encode_append t [] ys = refl
encode_append t (x ∷ xs) ys = ap (λ l. get_or t (x / 16) 0 ∷ get_or t (x % 16) 0 ∷ l) (encode_append t xs ys)

pub encode_nil : (t old : List ℕ) → old ≡ old ++ encode_with t []
unfolding encode_with
encode_nil t old = sym (append-nil old)

-- one more byte
pub encode_more : (t old xs : List ℕ) (i : ℕ) (line next : List ℕ) → i < length xs → line ≡ old ++ encode_with t (take i xs)
    → next ≡ line ++ encode_with t (get_or xs i 0 ∷ []) → next ≡ old ++ encode_with t (take (i + 1) xs)
encode_more t old xs i line next within now step =
    step ∙ ap (λ l. l ++ encode_with t (get_or xs i 0 ∷ [])) now ∙ append_assoc old _ _
    ∙ ap (λ l. old ++ l) (sym (encode_append t (take i xs) (get_or xs i 0 ∷ [])) ∙ ap (encode_with t) (sym (take_more xs i 0 within)))

-- some bytes more, and what is left
pub encode_on : (t line next front rest whole : List ℕ) → next ≡ line ++ encode_with t front → front ++ rest ≡ whole → next ++ encode_with t rest ≡ line ++ encode_with t whole
encode_on t line next front rest whole step cut =
    ap (λ l. l ++ encode_with t rest) step ∙ append_assoc line (encode_with t front) (encode_with t rest)
    ∙ ap (λ l. line ++ l) (sym (encode_append t front rest) ∙ ap (encode_with t) cut)
