use Rattle.std.proofs.Common.{◌≡◌, ℕ, List, [], ◌∷◌, ◌++◌, codes, sym, ap, ◌∙◌, append_assoc}
use Rattle.ns_events.proofs.Base64Lemmas.{base64-one, base64-two}
use Rattle.ns_events.proofs.put.put_end.Goals as goal

-- two symbols and an end that are put one after the other
two_symbols : (old : List ℕ) {one two all : List ℕ} (x y : ℕ) (end : List ℕ) → one ≡ old ++ x ∷ [] → two ≡ one ++ y ∷ [] → all ≡ two ++ end → all ≡ old ++ x ∷ y ∷ end
two_symbols old x y end first second last =
    last ∙ ap (λ l. l ++ end) (second ∙ ap (λ l. l ++ y ∷ []) first) ∙ append_assoc (old ++ x ∷ []) (y ∷ []) end ∙ append_assoc old (x ∷ []) (y ∷ end)

three_symbols : (old : List ℕ) {one two three all : List ℕ} (x y z : ℕ) (end : List ℕ)
    → one ≡ old ++ x ∷ [] → two ≡ one ++ y ∷ [] → three ≡ two ++ z ∷ [] → all ≡ three ++ end → all ≡ old ++ x ∷ y ∷ z ∷ end
three_symbols old {one} x y z end first second third last =
    two_symbols one y z end second third last ∙ ap (λ l. l ++ y ∷ z ∷ end) first ∙ append_assoc old (x ∷ []) (y ∷ z ∷ end)

pub returns-in-len1-clause-bytes : goal.returns-in-len1-clause-bytes
returns-in-len1-clause-bytes c =
    let old = c.args.text.now.bytes in
    two_symbols old _ _ (codes "==") c.put_symbol.ensures.bytes c.put_symbol-in-len1.ensures.bytes c.push_str.ensures.bytes
    ∙ ap (λ l. old ++ l) (sym (base64-one c.args.rest.now c.in-len1.len_at_least c.in-len1.len_below))

pub returns-in-len2-clause-bytes : goal.returns-in-len2-clause-bytes
returns-in-len2-clause-bytes c =
    let old = c.args.text.now.bytes in
    let one = c.put_symbol-in-len2.ensures.bytes in
    three_symbols old _ _ _ (codes "=") one c.put_symbol-in-len2-2.ensures.bytes c.put_symbol-in-len2-3.ensures.bytes c.push_str-in-len2.ensures.bytes
    ∙ ap (λ l. old ++ l) (sym (base64-two c.args.rest.now c.in-len2.len_at_least c.in-len2.len_below))
