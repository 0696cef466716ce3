-- Texts that are put one behind the other, and rows of a list.
use Rattle.std.proofs.Common.{◌≡◌, ◌<◌, ℕ, ◌+◌, Bool, false, List, ◌++◌, length, get_or, drop, map, Result, OnOk, sym, ap, ◌∙◌, append_assoc}
use Rattle.std.proofs.lemmas.List.{drop_more}
use Rattle.std.proofs.lemmas.Result.{on_ok_weaker}
use Rattle.serde_json.specs.Data.{Data}
use Rattle.ns_status.specs.Rows.{row_text, rows_text}

-- a row that was put, and those behind it
pub rows_more : {X : Type 0} (f : X → Data) (text : List ℕ) (is_first : Bool) (xs : List X) (i : ℕ) (x : X) → i < length xs
    → (text ++ row_text is_first (f (get_or xs i x))) ++ rows_text false (map f (drop (i + 1) xs)) ≡ text ++ rows_text is_first (map f (drop i xs))
rows_more f text is_first xs i x within =
    append_assoc text (row_text is_first (f (get_or xs i x))) (rows_text false (map f (drop (i + 1) xs)))
    ∙ ap (λ rest. text ++ rows_text is_first (map f rest)) (sym (drop_more xs i x within))

-- two texts that are put one behind the other
pub put_more : (t0 a t1 b t2 : List ℕ) → t1 ≡ t0 ++ a → t2 ≡ t1 ++ b → t2 ≡ t0 ++ (a ++ b)
put_more t0 a t1 b t2 first second = second ∙ (ap (λ t. t ++ b) first ∙ append_assoc t0 a b)

pub put_last : {X E : Type 0} (r : Result X E) (t0 a t1 b t2 : List ℕ) → t1 ≡ t0 ++ a → OnOk r (t2 ≡ t1 ++ b) → OnOk r (t2 ≡ t0 ++ (a ++ b))
put_last r t0 a t1 b t2 first second = on_ok_weaker r (put_more t0 a t1 b t2 first) second

-- a text that was put, as its parts
pub put_as : {X E : Type 0} (r : Result X E) (t0 a b t1 : List ℕ) → a ≡ b → OnOk r (t1 ≡ t0 ++ a) → OnOk r (t1 ≡ t0 ++ b)
put_as r t0 a b t1 same put = on_ok_weaker r (λ is. is ∙ ap (λ t. t0 ++ t) same) put
