-- The room of `Bytes`: behind the bytes in use there are zeros alone.
use Rattle.std.proofs.Common.{◌≡◌, ℕ, zero, suc, ◌+◌, ◌-◌, ◌<◌, ◌≤◌, List, [], ◌∷◌, ◌++◌, length, take, drop, set, get_or, replicate, refl, sym, ap, ◌∙◌, arith}
use Rattle.std.proofs.Math.Seq.{take-append_seam}
use Rattle.std.proofs.lemmas.List.{drop-replicate, drop_more, replicate_more, set-append_right, set_at, length-replicate, replicate-append-replicate, append_assoc}

-- zeros alone are left of bytes that end in zeros, once at least the bytes are dropped
zeros : (n m : ℕ) (xs : List ℕ) → length xs ≤ m → drop m (xs ++ replicate (n - length xs) 0) ≡ replicate (n - m) 0
zeros n m [] within = ap (λ k. drop m (replicate k 0)) (omega arith) ∙ drop-replicate m n 0
zeros n zero (x ∷ xs) within = absurd (omega (arith, within))
zeros n (suc m) (x ∷ xs) within =
    ap (λ k. drop m (xs ++ replicate k 0)) (omega arith) ∙ zeros (n - 1) m xs (omega (arith, within)) ∙ ap (λ k. replicate k 0) (omega arith)

-- from any place behind the bytes in use to the end of the room there are zeros alone
pub behind : (n l m : ℕ) (room : List ℕ) → (length (take l room) ≡ l) × (room ≡ take l room ++ replicate (n - l) 0) → l ≤ m → drop m room ≡ replicate (n - m) 0
behind n l m room is within =
    ap (drop m) (is.1 ∙ ap (λ k. take l room ++ replicate (n - k) 0) (sym is.0)) ∙ zeros n m (take l room) (omega (arith, is.0, within))

-- one more zero is written behind the bytes and the zeros so far
pub one_more_zero : (xs room : List ℕ) (at : ℕ) → length xs ≤ at → at < length room → set (xs ++ (replicate (at - length xs) 0 ++ drop at room)) at 0 ≡ xs ++ (replicate (at + 1 - length xs) 0 ++ drop (at + 1) room)
one_more_zero xs room at from within =
    let k = at - length xs in
    let rest = drop (at + 1) room in
    let more : set (replicate k 0 ++ drop at room) k 0 ≡ replicate (at + 1 - length xs) 0 ++ rest =
    ap (λ ys. set (replicate k 0 ++ ys) k 0) (drop_more room at 0 within)
    ∙ set_at (replicate k 0) (get_or room at 0) rest 0 k (length-replicate k 0)
    ∙ sym (append_assoc (replicate k 0) (0 ∷ []) rest)
    ∙ ap (λ zs. zs ++ rest) (replicate_more k 0)
    ∙ ap (λ m. replicate m 0 ++ rest) (omega arith) in
    set-append_right xs (replicate k 0 ++ drop at room) (length xs) at 0 refl from ∙ ap (λ ys. xs ++ ys) more

-- zeros up to a place, and zeros from there to the end of the room, are zeros to the end of the room
pub zeros_meet : (n len at : ℕ) → len ≤ at → at ≤ n → replicate {A = ℕ} (at - len) 0 ++ replicate (n - at) 0 ≡ replicate (n - len) 0
zeros_meet n len at from within = replicate-append-replicate (at - len) (n - at) 0 ∙ ap (λ k. replicate k 0) (omega arith)

-- bytes with zeros alone behind them are kept as the type's invariant says
pub kept_with_zeros : (n : ℕ) (xs room : List ℕ) → room ≡ xs ++ replicate (n - length xs) 0 → (length (take (length xs) room) ≡ length xs) × (room ≡ take (length xs) room ++ replicate (n - length xs) 0)
kept_with_zeros n xs room is = rw (is, take-append_seam) (refl, refl)
