-- The lines of shards, one shard more.
use Rattle.std.proofs.Common.{◌≡◌, ℕ, ◌+◌, ◌<◌, List, [], ◌∷◌, ◌++◌, length, length-append, take, get_or, sym, ap, ◌∙◌, append_assoc, append-nil, arith}
use Rattle.std.proofs.lemmas.List.{take_more, length-take-le}
use Rattle.ns_checkpoint.specs.declared.tables.Tables.{Tables}
use Rattle.ns_checkpoint.specs.Text.{tables_lines, shards_lines}

pub shards-more : (n : ℕ) (ts : List Tables) (t : Tables) → shards_lines n (ts ++ t ∷ []) ≡ shards_lines n ts ++ tables_lines (n + length ts) t
shards-more n [] t =
    let place : n ≡ n + 0 = omega arith in
    append-nil (tables_lines n t) ∙ ap (λ k. tables_lines k t) place
shards-more n (x ∷ ts) t =
    let place : n + 1 + length ts ≡ n + length (x ∷ ts) = omega arith in
    ap (λ l. tables_lines n x ++ l) (shards-more (n + 1) ts t ∙ ap (λ k. shards_lines (n + 1) ts ++ tables_lines k t) place)
    ∙ sym (append_assoc (tables_lines n x) (shards_lines (n + 1) ts) (tables_lines (n + length (x ∷ ts)) t))

-- the shards up to one more
pub shards-taken : (xs : List Tables) (i : ℕ) (d : Tables) → i < length xs
    → shards_lines 0 (take (i + 1) xs) ≡ shards_lines 0 (take i xs) ++ tables_lines i (get_or xs i d)
shards-taken xs i d within =
    let long : length (take i xs) ≡ i = length-take-le i xs (omega (arith, within)) in
    let place : 0 + length (take i xs) ≡ i = omega (arith, long) in
    ap (shards_lines 0) (take_more xs i d within) ∙ shards-more 0 (take i xs) (get_or xs i d)
    ∙ ap (λ k. shards_lines 0 (take i xs) ++ tables_lines k (get_or xs i d)) place

-- their number of lines
pub count-taken : (xs : List Tables) (i : ℕ) (t : Tables) (lines n : ℕ) → i < length xs → t ≡ get_or xs i t → lines ≡ length (shards_lines 0 (take i xs))
    → ((k : ℕ) → n ≡ length (tables_lines k t)) → lines + n ≡ length (shards_lines 0 (take (i + 1) xs))
count-taken xs i t lines n within is so more =
    let now : length (shards_lines 0 (take (i + 1) xs)) ≡ length (shards_lines 0 (take i xs)) + length (tables_lines i t) =
    ap length (shards-taken xs i t within ∙ ap (λ u. shards_lines 0 (take i xs) ++ tables_lines i u) (sym is)) ∙ length-append (shards_lines 0 (take i xs)) (tables_lines i t) in
    let this : n ≡ length (tables_lines i t) = more i in
    omega (arith, so, this, now)
