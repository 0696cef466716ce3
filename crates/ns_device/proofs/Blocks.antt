-- A block that is deciphered stays a block's length.
use Rattle.std.proofs.Common.{◌≡◌, ℕ, List, [], ◌∷◌, ◌++◌, length, take, drop, reverse, refl, arith}
use Rattle.ns_aes_cmac.specs.Aes.{unaes, xor_bytes, inverse_rounds, inverse_mix_columns, inverse_sub_bytes, inverse_shift_rows, round_keys, round_keys_by, first_key}

length-xor : (n : ℕ) (xs ys : List ℕ) → length xs ≡ n → length ys ≡ n → length (xor_bytes xs ys) ≡ n
unfolding xor_bytes
length-xor n [] ys e f = e
length-xor n (x ∷ xs) [] e f = f
length-xor n (x ∷ xs) (y ∷ ys) e f =
    let rest : length (xor_bytes xs ys) ≡ length xs = length-xor (length xs) xs ys refl (omega (arith, e, f)) in
    omega (arith, rest, e)

-- the last round, with the key itself, gives 16 bytes
last_round : (ks : List (List ℕ)) (s key : List ℕ) → length key ≡ 16 → length (inverse_rounds (ks ++ key ∷ []) s) ≡ 16
unfolding inverse_rounds
last_round [] s key e = length-xor 16 key (inverse_sub_bytes (inverse_shift_rows s)) e refl
last_round (k ∷ []) s key e = last_round [] (inverse_mix_columns (xor_bytes k (inverse_sub_bytes (inverse_shift_rows s)))) key e
last_round (k ∷ l ∷ ks) s key e = last_round (l ∷ ks) (inverse_mix_columns (xor_bytes k (inverse_sub_bytes (inverse_shift_rows s)))) key e

pub length-unaes : (key b : List ℕ) → length key ≡ 16 → length (unaes key b) ≡ 16
unfolding unaes round_keys_by
length-unaes key b e =
    let keys = reverse (key ∷ round_keys key) in
    last_round (take 9 (drop 1 keys)) (xor_bytes (first_key keys) b) key e
