-- Rounds, one for each key.
use Rattle.std.proofs.Common.{◌≡◌, ℕ, ◌+◌, ◌<◌, ◌≤◌, List, [], ◌∷◌, ◌++◌, length, map, drop, get_or, bit_xor, refl, sym, ap, ◌∙◌, arith}
use Rattle.std.proofs.lemmas.List.{drop_more, drop_all, get_or-map, length-map}
use lib.Lanes.{zip2}
use Rattle.ns_aes_cmac.specs.Aes.{xor_bytes, sub_bytes, shift_rows, mix_columns, rounds, round_keys, aes, first_key}
use Rattle.ns_aes_cmac.specs.declared.key_schedule.RoundKey.{RoundKey}
use Rattle.ns_aes_cmac.specs.declared.key_schedule.RoundKeys.{RoundKeys}
use Rattle.ns_aes_cmac.specs.RoundKeys.{round_key, in_order}
use Rattle.ns_aes_cmac.proofs.Mix.{zip2_xor}

abbrev pub full : List ℕ → List ℕ → List ℕ
full k s = xor_bytes k (mix_columns (shift_rows (sub_bytes s)))

abbrev final : List ℕ → List ℕ → List ℕ
final k s = xor_bytes k (shift_rows (sub_bytes s))

pub rounds-next : (k l : List ℕ) (ks : List (List ℕ)) (s : List ℕ) → rounds (k ∷ l ∷ ks) s ≡ rounds (l ∷ ks) (full k s)
unfolding rounds
rounds-next k l ks s = refl

pub rounds-end : (k s : List ℕ) → rounds (k ∷ []) s ≡ final k s
unfolding rounds
rounds-end k s = refl

-- the rounds of a cipher by its full round: those that are left give the same state, one round later
module _ (run : List (List ℕ) → List ℕ → List ℕ) (full : List ℕ → List ℕ → List ℕ)
    (next : (k l : List ℕ) (ks : List (List ℕ)) (s : List ℕ) → run (k ∷ l ∷ ks) s ≡ run (l ∷ ks) (full k s)) where
  step : (k last : List ℕ) (ks : List (List ℕ)) (s : List ℕ) → run (k ∷ (ks ++ last ∷ [])) s ≡ run (ks ++ last ∷ []) (full k s)
  step k last [] s = next k last [] s
  step k last (l ∷ ks) s = next k l (ks ++ last ∷ []) s

  pub one_later : (ks : List (List ℕ)) (last s v : List ℕ) (i : ℕ) → i < length ks → v ≡ full (get_or ks i []) s → run (drop i ks ++ last ∷ []) s ≡ run (drop (i + 1) ks ++ last ∷ []) v
  one_later ks last s v i lt e =
      ap (λ l. run (l ++ last ∷ []) s) (drop_more ks i [] lt) ∙ step (get_or ks i []) last (drop (i + 1) ks) s ∙ ap (run (drop (i + 1) ks ++ last ∷ [])) (sym e)

-- ---- from the keys as the code holds them

-- before the first round all rounds are left
pub aes_begins : (ks : RoundKeys) (key block s : List ℕ) → in_order ks ≡ key ∷ round_keys key → s ≡ zip2 bit_xor ks.first block
    → rounds (map round_key ks.between ++ ks.last ∷ []) s ≡ aes key block
unfolding aes
aes_begins ks key block s e f =
    ap (rounds (map round_key ks.between ++ ks.last ∷ [])) (f ∙ zip2_xor ks.first block ∙ ap (λ l. xor_bytes (first_key l) block) e)
    ∙ ap (λ l. rounds (drop 1 l) (xor_bytes key block)) e

-- the rounds that are left, one round later
pub aes_later : (ks : RoundKeys) (between : List RoundKey) (s v r : List ℕ) (i : ℕ) (d : RoundKey) → i < length ks.between → between ≡ ks.between → v ≡ full (round_key (get_or between i d)) s
    → rounds (drop i (map round_key ks.between) ++ ks.last ∷ []) s ≡ r → rounds (drop (i + 1) (map round_key ks.between) ++ ks.last ∷ []) v ≡ r
aes_later ks between s v r i d lt same e f =
    let long = length-map ks.between round_key in
    let at = ap (λ l. round_key (get_or l i d)) same ∙ sym (get_or-map round_key ks.between i d [] lt) in
    sym (one_later rounds full rounds-next (map round_key ks.between) ks.last s v i (omega arith) (e ∙ ap (λ k. full k s) at)) ∙ f

-- no round but the last is left
pub aes_ends : (ks : RoundKeys) (s v r : List ℕ) (i : ℕ) → length ks.between ≤ i → v ≡ final ks.last s
    → rounds (drop i (map round_key ks.between) ++ ks.last ∷ []) s ≡ r → v ≡ r
aes_ends ks s v r i le e f =
    let long = length-map ks.between round_key in
    e ∙ sym (rounds-end ks.last s) ∙ ap (λ l. rounds (l ++ ks.last ∷ []) s) (sym (drop_all i (map round_key ks.between) (omega arith))) ∙ f
