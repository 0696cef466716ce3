-- How long blocks, MICs and keys are.
use Rattle.std.proofs.Common.{◌≡◌, ℕ, zero, suc, ◌+◌, ◌-◌, ◌*◌, ◌/◌, ◌<◌, ◌≤◌, List, [], ◌∷◌, ◌++◌, length, take, drop, map, reverse, replicate, eqb-true, if◌then◌else◌, ◌==◌, refl, ap, ◌∙◌, arith, length-append, length-drop, length-take}
use Rattle.std.proofs.lemmas.Bool.{cond_both}
use Rattle.ns_types.proofs.ByteLemmas.{length-part}
use Rattle.std.proofs.lemmas.List.{length-map, length-replicate, length-reverse, reverse-append}
use Rattle.ns_aes_cmac.specs.Aes.{aes, unaes, xor_bytes, first_key, inverse_rounds, inverse_sub_bytes, inverse_shift_rows, rounds, round_keys, round_keys_by, round_constants, next_round_key, rot_sub_word, shift_rows, sub_bytes, mix_columns, mix_columns_by, s_box}
use Rattle.ns_aes_cmac.specs.Cmac.{cmac, chained, last_block, block, block_count, subkey_1, subkey_2, doubled, shifted_left, top_bit}
use Rattle.std.specs.Int.{w16, w32, to_le_bytes}
use Rattle.std.specs.Int.Bits.{bit_xor, xor_assoc, xor_self, xor_zero_r}
use Rattle.ns_secure.specs.declared.Dir.{Dir}
use Rattle.ns_secure.specs.Integrity.{block_b0, mic, join_mic}
use Rattle.ns_secure.specs.Cipher.{block_a, key_stream, cipher}
use Rattle.ns_secure.specs.Keys.{session_key}
use Rattle.ns_secure.proofs.Stream.{length-xor}
use Rattle.ns_secure.proofs.KeyStream.{key_stream_none, key_stream_more}

-- ---- AES-128

sum_len : (n : ℕ) (xs ys : List ℕ) → length xs ≡ n → length ys ≡ n → length (xor_bytes xs ys) ≡ n
sum_len n xs ys e f = omega (arith, length-xor xs ys)

turned_len : (rcon : ℕ) (w : List ℕ) → length w ≡ 4 → length (rot_sub_word rcon w) ≡ 4
turned_len rcon w e =
    let turned : length (map s_box (drop 1 w ++ take 1 w)) ≡ 4 = omega (arith, length-map (drop 1 w ++ take 1 w) s_box, length-append (drop 1 w) (take 1 w), length-drop 1 w, length-take 1 w) in
    sum_len 4 (map s_box (drop 1 w ++ take 1 w)) (rcon ∷ 0 ∷ 0 ∷ 0 ∷ []) turned refl

four_words : (a b c d : List ℕ) → length a ≡ 4 → length b ≡ 4 → length c ≡ 4 → length d ≡ 4 → length (a ++ b ++ c ++ d) ≡ 16
four_words a b c d e f g h = omega (arith, length-append (a ++ b ++ c) d, length-append (a ++ b) c, length-append a b)

next_len : (rcon : ℕ) (k : List ℕ) → length k ≡ 16 → length (next_round_key rcon k) ≡ 16
unfolding next_round_key
next_len rcon k e =
    let w0 = xor_bytes (take 4 k) (rot_sub_word rcon (drop 12 k)) in
    let w1 = xor_bytes (take 4 (drop 4 k)) w0 in
    let w2 = xor_bytes (take 4 (drop 8 k)) w1 in
    let w3 = xor_bytes (drop 12 k) w2 in
    let last : length (drop 12 k) ≡ 4 = omega (arith, length-drop 12 k) in
    let e0 : length w0 ≡ 4 = sum_len 4 (take 4 k) (rot_sub_word rcon (drop 12 k)) (omega (arith, length-take 4 k)) (turned_len rcon (drop 12 k) last) in
    let e1 : length w1 ≡ 4 = sum_len 4 (take 4 (drop 4 k)) w0 (length-part k 4 4 (omega arith)) e0 in
    let e2 : length w2 ≡ 4 = sum_len 4 (take 4 (drop 8 k)) w1 (length-part k 8 4 (omega arith)) e1 in
    let e3 : length w3 ≡ 4 = sum_len 4 (drop 12 k) w2 last e2 in
    four_words w0 w1 w2 w3 e0 e1 e2 e3

abbrev AreBlocks : List (List ℕ) → Type 0
AreBlocks [] = Unit {0}
AreBlocks (k ∷ ks) = (length k ≡ 16) × AreBlocks ks

round_keys_len : (rcons k : List ℕ) → length k ≡ 16 → AreBlocks (round_keys_by rcons k)
unfolding round_keys_by
round_keys_len [] k e = tt
round_keys_len (rcon ∷ rcons) k e = (next_len rcon k e, round_keys_len rcons (next_round_key rcon k) (next_len rcon k e))

mixed_len : (s : List ℕ) → length (mix_columns (shift_rows s)) ≡ 16
unfolding mix_columns_by
mixed_len s = refl

rounds_len : (ks : List (List ℕ)) (s : List ℕ) → AreBlocks ks → length s ≡ 16 → length (rounds ks s) ≡ 16
unfolding rounds
rounds_len [] s h e = e
rounds_len (k ∷ []) s h e = sum_len 16 k (shift_rows (sub_bytes s)) h.0 refl
rounds_len (k ∷ l ∷ ks) s h e = rounds_len (l ∷ ks) _ h.1 (sum_len 16 k (mix_columns (shift_rows (sub_bytes s))) h.0 (mixed_len (sub_bytes s)))

-- a block stays a block
pub length-aes : (key b : List ℕ) → length key ≡ 16 → length b ≡ 16 → length (aes key b) ≡ 16
unfolding aes
length-aes key b e f = rounds_len (round_keys key) (xor_bytes key b) (round_keys_len round_constants key e) (sum_len 16 key b e f)

-- ---- the inverse cipher

mixed_by_len : (a b c d n : ℕ) (s : List ℕ) → length s ≡ 4 * n → length (mix_columns_by a b c d s) ≡ 4 * n
unfolding mix_columns_by
mixed_by_len a b c d zero [] e = refl
mixed_by_len a b c d (suc n) (w ∷ x ∷ y ∷ z ∷ s) e = omega (arith, mixed_by_len a b c d n s (omega arith))
mixed_by_len a b c d n s e = absurd (omega (arith, e))

inverse_rounds_len : (ks : List (List ℕ)) (s : List ℕ) → AreBlocks ks → length s ≡ 16 → length (inverse_rounds ks s) ≡ 16
unfolding inverse_rounds
inverse_rounds_len [] s h e = e
inverse_rounds_len (k ∷ []) s h e = sum_len 16 k (inverse_sub_bytes (inverse_shift_rows s)) h.0 refl
inverse_rounds_len (k ∷ l ∷ ks) s h e =
    inverse_rounds_len (l ∷ ks) _ h.1 (mixed_by_len 0x0e 0x0b 0x0d 0x09 4 (xor_bytes k (inverse_sub_bytes (inverse_shift_rows s))) (sum_len 16 k (inverse_sub_bytes (inverse_shift_rows s)) h.0 refl))

more_blocks : (ks : List (List ℕ)) (k : List ℕ) → AreBlocks ks → length k ≡ 16 → AreBlocks (ks ++ k ∷ [])
more_blocks [] k h e = (e, tt)
more_blocks (l ∷ ks) k h e = (h.0, more_blocks ks k h.1 e)

reversed_blocks : (ks : List (List ℕ)) → AreBlocks ks → AreBlocks (reverse ks)
reversed_blocks [] h = tt
reversed_blocks (k ∷ ks) h = rw (reverse-append (k ∷ []) ks) (more_blocks (reverse ks) k (reversed_blocks ks h.1) h.0)

keyed_len : (ks : List (List ℕ)) (b : List ℕ) → AreBlocks ks → 0 < length ks → length b ≡ 16 → length (inverse_rounds (drop 1 ks) (xor_bytes (first_key ks) b)) ≡ 16
keyed_len [] b h some e = absurd (omega (arith, some))
keyed_len (k ∷ ks) b h some e = inverse_rounds_len ks (xor_bytes k b) h.1 (sum_len 16 k b h.0 e)

pub length-unaes : (key b : List ℕ) → length key ≡ 16 → length b ≡ 16 → length (unaes key b) ≡ 16
unfolding unaes
length-unaes key b e f =
    let keys = key ∷ round_keys key in
    keyed_len (reverse keys) b (reversed_blocks keys (e, round_keys_len round_constants key e)) (omega (arith, length-reverse keys)) f

-- ---- CMAC

shifted_left_len : (b : List ℕ) → length (shifted_left b) ≡ length b
unfolding shifted_left
shifted_left_len [] = refl
shifted_left_len (x ∷ b) = ap suc (shifted_left_len b)

doubled_len : (b : List ℕ) → length b ≡ 16 → length (doubled b) ≡ 16
doubled_len b e = omega (arith, length-xor (shifted_left b) (replicate 15 0 ++ (if top_bit b == 1 then 0x87 else 0) ∷ []), shifted_left_len b)

last_len : (key b : List ℕ) → length key ≡ 16 → length b ≤ 16 → length (last_block key b) ≡ 16
unfolding last_block
last_len key b e h =
    let k1 : length (subkey_1 key) ≡ 16 = doubled_len (aes key (replicate 16 0)) (length-aes key (replicate 16 0) e refl) in
    let k2 : length (subkey_2 key) ≡ 16 = doubled_len (subkey_1 key) k1 in
    cond_both (length b == 16) (xor_bytes b (subkey_1 key)) (xor_bytes (b ++ 0x80 ∷ replicate (15 - length b) 0) (subkey_2 key)) (λ l. length l ≡ 16)
    (λ t. sum_len 16 b (subkey_1 key) (eqb-true (length b) 16 t) k1)
    (λ t. omega (arith, length-xor (b ++ 0x80 ∷ replicate (15 - length b) 0) (subkey_2 key), length-append b (0x80 ∷ replicate (15 - length b) 0), length-replicate {A = ℕ} (15 - length b) 0))

chained_len : (key m : List ℕ) (n : ℕ) → length key ≡ 16 → 16 * n ≤ length m → length (chained key m n) ≡ 16
unfolding chained
chained_len key m zero e h = refl
chained_len key m (suc n) e h = length-aes key (xor_bytes (chained key m n) (block m n)) e (sum_len 16 (chained key m n) (block m n) (chained_len key m n e (omega arith)) (length-part m (16 * n) 16 (omega arith)))

pub length-cmac : (key m : List ℕ) → length key ≡ 16 → length (cmac key m) ≡ 16
unfolding cmac
length-cmac key m e =
    let n = block_count m - 1 in
    let whole : 16 * n ≤ length m = omega arith in
    let short : length (block m n) ≤ 16 = omega (arith, length-take 16 (drop (16 * n) m)) in
    length-aes key (xor_bytes (chained key m n) (last_block key (block m n))) e (sum_len 16 (chained key m n) (last_block key (block m n)) (chained_len key m n e whole) (last_len key (block m n) e short))

-- ---- the formulas

pub length-key_stream : (key : List ℕ) (dir : Dir) (addr counter count : ℕ) → length key ≡ 16 → length (key_stream key dir addr counter count) ≡ 16 * count
length-key_stream key dir addr counter zero e = ap length (key_stream_none key dir addr counter)
length-key_stream key dir addr counter (suc count) e =
    let one : suc count ≡ count + 1 = omega arith in
    let last : length (aes key (block_a dir addr counter (suc count))) ≡ 16 = length-aes key (block_a dir addr counter (suc count)) e refl in
    ap length (key_stream_more key dir addr counter count (suc count) one) ∙ omega (arith, length-append (key_stream key dir addr counter count) (aes key (block_a dir addr counter (suc count))), last, length-key_stream key dir addr counter count e)

pub length-cipher : (key payload : List ℕ) (dir : Dir) (addr counter : ℕ) → length key ≡ 16 → length (cipher key dir addr counter payload) ≡ length payload
length-cipher key payload dir addr counter e =
    let count = (length payload + 15) / 16 in
    omega (arith, length-xor payload (key_stream key dir addr counter count), length-key_stream key dir addr counter count e)

xor_twice : (x y : ℕ) → bit_xor (bit_xor x y) y ≡ x
xor_twice x y = xor_assoc x y y ∙ ap (bit_xor x) (xor_self y) ∙ xor_zero_r x

sum_twice : (payload stream : List ℕ) → length payload ≤ length stream → xor_bytes (xor_bytes payload stream) stream ≡ payload
unfolding xor_bytes
sum_twice [] stream h = refl
sum_twice (x ∷ payload) [] h = absurd (omega (arith, h))
sum_twice (x ∷ payload) (y ∷ stream) h = ap (λ (b : ℕ). b ∷ xor_bytes (xor_bytes payload stream) stream) (xor_twice x y) ∙ ap (λ (l : List ℕ). x ∷ l) (sum_twice payload stream (omega arith))

pub cipher_twice : (key payload : List ℕ) (dir : Dir) (addr counter : ℕ) → length key ≡ 16 → cipher key dir addr counter (cipher key dir addr counter payload) ≡ payload
cipher_twice key payload dir addr counter e =
    let stream : ℕ → List ℕ = λ n. key_stream key dir addr counter ((n + 15) / 16) in
    let long : length payload ≤ length (stream (length payload)) = omega (arith, length-key_stream key dir addr counter ((length payload + 15) / 16) e) in
    ap (λ (n : ℕ). xor_bytes (cipher key dir addr counter payload) (stream n)) (length-cipher key payload dir addr counter e) ∙ sum_twice payload (stream (length payload)) long

pub length-mic : (key signed : List ℕ) (dir : Dir) (addr counter : ℕ) → length key ≡ 16 → length (mic key dir addr counter signed) ≡ 4
length-mic key signed dir addr counter e =
    let m = block_b0 dir addr counter (length signed) ++ signed in
    omega (arith, length-take 4 (cmac key m), length-cmac key m e)

pub length-join_mic : (app_key signed : List ℕ) → length app_key ≡ 16 → length (join_mic app_key signed) ≡ 4
length-join_mic app_key signed e = omega (arith, length-take 4 (cmac app_key signed), length-cmac app_key signed e)

pub length-session_key : (kind : ℕ) (app_key join_nonce : List ℕ) (net_id dev_nonce : ℕ) → length app_key ≡ 16 → length join_nonce ≡ 3 → length (session_key kind app_key join_nonce net_id dev_nonce) ≡ 16
length-session_key kind app_key join_nonce net_id dev_nonce e f =
    length-aes app_key (kind ∷ join_nonce ++ take 3 (to_le_bytes w32 net_id) ++ to_le_bytes w16 dev_nonce ++ replicate 7 0) e (simp length-append (omega arith))
