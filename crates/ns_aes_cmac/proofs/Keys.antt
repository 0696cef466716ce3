-- The round keys, one from another.
use Rattle.std.proofs.Common.{◌≡◌, ℕ, ◌+◌, ◌<◌, List, [], ◌∷◌, ◌++◌, length, map, get_or, set, take, drop, replicate, bit_xor, refl, sym, ap, ◌∙◌, arith}
use Rattle.std.proofs.lemmas.Nat.{xor_comm}
use Rattle.std.proofs.lemmas.List.{append_assoc, drop_more, get_or-map, get_or_append_left, map-append, take_all, take_more_set}
use lib.Bits.{xor_assoc}
use lib.Lanes.{zip2, pick_l}
use Rattle.ns_aes_cmac.specs.Aes.{xor_bytes, sub_bytes, s_box, next_round_key, round_constants, round_keys_by}
use Rattle.ns_aes_cmac.specs.Basis.{from_basis, key_from_basis}
use Rattle.ns_aes_cmac.specs.RoundKeys.{round_key}
use Rattle.ns_aes_cmac.specs.declared.key_schedule.RoundKey.{RoundKey}
use Rattle.ns_aes_cmac.specs.declared.key_schedule.TheConstants.{ROUND_CONSTANTS, LAST_CONSTANT}
use Rattle.ns_aes_cmac.proofs.Mix.{sixteen, picked, joined}

abbrev pub one_word : List ℕ
one_word = 0 ∷ 0 ∷ 0 ∷ 0 ∷ 16 ∷ 17 ∷ 18 ∷ 19 ∷ 20 ∷ 21 ∷ 22 ∷ 23 ∷ 24 ∷ 25 ∷ 26 ∷ 27 ∷ []

abbrev pub two_words : List ℕ
two_words = 0 ∷ 0 ∷ 0 ∷ 0 ∷ 0 ∷ 0 ∷ 0 ∷ 0 ∷ 16 ∷ 17 ∷ 18 ∷ 19 ∷ 20 ∷ 21 ∷ 22 ∷ 23 ∷ []

abbrev pub turned : List ℕ
turned = 13 ∷ 14 ∷ 15 ∷ 12 ∷ 13 ∷ 14 ∷ 15 ∷ 12 ∷ 13 ∷ 14 ∷ 15 ∷ 12 ∷ 13 ∷ 14 ∷ 15 ∷ 12 ∷ []

abbrev constants : ℕ → List ℕ
constants rcon = rcon ∷ 0 ∷ 0 ∷ 0 ∷ rcon ∷ 0 ∷ 0 ∷ 0 ∷ rcon ∷ 0 ∷ 0 ∷ 0 ∷ rcon ∷ 0 ∷ 0 ∷ 0 ∷ []

abbrev pub shuffled : List ℕ → List ℕ → List ℕ
shuffled ks v = pick_l 0 (replicate 16 0 ++ v) ks

abbrev pub pairs : List ℕ → List ℕ
pairs k = zip2 bit_xor (shuffled one_word k) k

abbrev pub next_by_code : ℕ → List ℕ → List ℕ → List ℕ
next_by_code rcon k word = zip2 bit_xor (zip2 bit_xor (shuffled two_words (pairs k)) (pairs k)) (zip2 bit_xor word (constants rcon))

sum_1 : (a b t : ℕ) → bit_xor (bit_xor a b) t ≡ bit_xor b (bit_xor a t)
sum_1 a b t = ap (λ n. bit_xor n t) (xor_comm a b) ∙ xor_assoc b a t

sum_2 : (a b c t : ℕ) → bit_xor (bit_xor a (bit_xor b c)) t ≡ bit_xor c (bit_xor b (bit_xor a t))
sum_2 a b c t = sum_1 a (bit_xor b c) t ∙ sum_1 b c (bit_xor a t)

sum_3 : (a b c d t : ℕ) → bit_xor (bit_xor (bit_xor a b) (bit_xor c d)) t ≡ bit_xor d (bit_xor c (bit_xor b (bit_xor a t)))
sum_3 a b c d t = sum_1 (bit_xor a b) (bit_xor c d) t ∙ ap (bit_xor (bit_xor c d)) (sum_1 a b t) ∙ sum_1 c d (bit_xor b (bit_xor a t))

pub next_of : (rcon : ℕ) (k : List ℕ) → length k ≡ 16 → next_by_code rcon k (sub_bytes (picked turned k)) ≡ next_round_key rcon k
unfolding next_round_key xor_bytes
next_of rcon k long =
    sixteen (λ v. next_by_code rcon v (sub_bytes (picked turned v)) ≡ next_round_key rcon v)
    (λ a0 a1 a2 a3 a4 a5 a6 a7 a8 a9 a10 a11 a12 a13 a14 a15.
    joined (refl) (
    joined (refl) (
    joined (refl) (
    joined (refl) (
    joined (sum_1 a0 a4 (bit_xor (s_box a13) rcon)) (
    joined (sum_1 a1 a5 (bit_xor (s_box a14) 0)) (
    joined (sum_1 a2 a6 (bit_xor (s_box a15) 0)) (
    joined (sum_1 a3 a7 (bit_xor (s_box a12) 0)) (
    joined (sum_2 a0 a4 a8 (bit_xor (s_box a13) rcon)) (
    joined (sum_2 a1 a5 a9 (bit_xor (s_box a14) 0)) (
    joined (sum_2 a2 a6 a10 (bit_xor (s_box a15) 0)) (
    joined (sum_2 a3 a7 a11 (bit_xor (s_box a12) 0)) (
    joined (sum_3 a0 a4 a8 a12 (bit_xor (s_box a13) rcon)) (
    joined (sum_3 a1 a5 a9 a13 (bit_xor (s_box a14) 0)) (
    joined (sum_3 a2 a6 a10 a14 (bit_xor (s_box a15) 0)) (
    joined (sum_3 a3 a7 a11 a15 (bit_xor (s_box a12) 0)) (
    refl)))))))))))))))))
    k long

-- the round constants of the code are those of the standard, in the basis
in_basis : map key_from_basis (ROUND_CONSTANTS ++ LAST_CONSTANT ∷ []) ≡ round_constants
unfolding from_basis key_from_basis
in_basis = refl

-- the keys after s, by the first of the round constants that are left
unfolded : (i : ℕ) (s : List ℕ) → i < 10 → round_keys_by (drop i round_constants) s
    ≡ next_round_key (get_or round_constants i 0) s ∷ round_keys_by (drop (i + 1) round_constants) (next_round_key (get_or round_constants i 0) s)
unfolding round_keys_by
unfolded i s lt = ap (λ l. round_keys_by l s) (drop_more round_constants i 0 lt)

constant : (i : ℕ) → i < 9 → key_from_basis (get_or ROUND_CONSTANTS i 0) ≡ get_or round_constants i 0
constant i lt =
    ap key_from_basis (sym (get_or_append_left ROUND_CONSTANTS (LAST_CONSTANT ∷ []) 0 i lt))
    ∙ sym (get_or-map key_from_basis (ROUND_CONSTANTS ++ LAST_CONSTANT ∷ []) i 0 0 (omega arith)) ∙ ap (λ l. get_or l i 0) in_basis

-- one round key more is made
pub one_more : (ks : List RoundKey) (rcons : List ℕ) (i : ℕ) (k : RoundKey) (s t : List ℕ) (all : List (List ℕ)) → i < 9 → length ks ≡ 9 → rcons ≡ ROUND_CONSTANTS
    → t ≡ next_round_key (key_from_basis (get_or rcons i 0)) s → round_key k ≡ t
    → map round_key (take i ks) ++ round_keys_by (drop i round_constants) s ≡ all
    → map round_key (take (i + 1) (set ks i k)) ++ round_keys_by (drop (i + 1) round_constants) t ≡ all
one_more ks rcons i k s t all lt long same e f g =
    let made = map round_key (take i ks) in
    let left = round_keys_by (drop (i + 1) round_constants) in
    let by = e ∙ ap (λ l. next_round_key (key_from_basis (get_or l i 0)) s) same ∙ ap (λ n. next_round_key n s) (constant i lt) in
    ap (λ l. map round_key l ++ left t) (take_more_set ks i k (omega arith))
    ∙ ap (λ l. l ++ left t) (map-append round_key (take i ks) (k ∷ []) ∙ ap (λ l. made ++ l ∷ []) f)
    ∙ append_assoc made (t ∷ []) (left t) ∙ ap (λ l. made ++ l) (ap (λ l. l ∷ left l) by ∙ sym (unfolded i s (omega arith))) ∙ g

-- with the last one all are made
pub all_made : (ks : List RoundKey) (i : ℕ) (s last : List ℕ) (all : List (List ℕ)) → i ≡ 9 → length ks ≡ 9
    → last ≡ next_round_key (key_from_basis LAST_CONSTANT) s
    → map round_key (take i ks) ++ round_keys_by (drop i round_constants) s ≡ all
    → map round_key ks ++ last ∷ [] ≡ all
unfolding round_keys_by
all_made ks i s last all nine long e g =
    let at : key_from_basis LAST_CONSTANT ≡ get_or round_constants 9 0 = ap (λ l. get_or l 9 0) in_basis in
    ap (λ l. map round_key ks ++ l ∷ []) (e ∙ ap (λ n. next_round_key n s) at) ∙ ap (λ l. map round_key ks ++ l) (sym (unfolded 9 s (omega arith)))
    ∙ ap (λ l. map round_key l ++ round_keys_by (drop 9 round_constants) s) (sym (take_all 9 ks (omega arith)))
    ∙ ap (λ n. map round_key (take n ks) ++ round_keys_by (drop n round_constants) s) (sym nine) ∙ g
