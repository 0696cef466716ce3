-- The key after a key in the basis is the next round key.
use Rattle.std.proofs.Common.{◌≡◌, ℕ, ◌<◌, List, [], ◌∷◌, map, bit_xor, w8, Fits, refl, sym, ap, ◌∙◌, arith}
use Rattle.std.proofs.lemmas.Nat.{xor_comm}
use Rattle.std.proofs.lemmas.List.{length-map}
use lib.Bits.{xor_assoc, xor_zero_r}
use lib.Lanes.{Each1, zip2}
use Rattle.ns_aes_cmac.specs.Aes.{s_box, sub_bytes, next_round_key}
use Rattle.ns_aes_cmac.specs.Basis.{from_basis, key_from_basis}
use Rattle.ns_aes_cmac.proofs.Bytes.{agree_at}
use Rattle.ns_aes_cmac.proofs.Lanes.{IsBlock}
use Rattle.ns_aes_cmac.proofs.Mix.{sixteen, joined, picked}
use Rattle.ns_aes_cmac.proofs.Keys.{two_words, turned, shuffled, pairs, next_by_code, next_of}
use Rattle.ns_aes_cmac.proofs.InBasis.{byte_by, linear, swap, xor_byte, once, all_once, all_once_bytes}

no_constant : key_from_basis 91 ≡ 0
unfolding from_basis key_from_basis
no_constant = refl

linear_three : (a b c : ℕ) → a < 256 → b < 256 → c < 256 → from_basis (bit_xor a (bit_xor b c)) ≡ bit_xor (from_basis a) (bit_xor (from_basis b) (from_basis c))
linear_three a b c fa fb fc = linear a (bit_xor b c) fa (xor_byte b c fb fc) ∙ ap (bit_xor (from_basis a)) (linear b c fb fc)

linear_four : (a b c d : ℕ) → a < 256 → b < 256 → c < 256 → d < 256 → from_basis (bit_xor (bit_xor a b) (bit_xor c d)) ≡ bit_xor (bit_xor (from_basis a) (from_basis b)) (bit_xor (from_basis c) (from_basis d))
linear_four a b c d fa fb fc fd =
    linear_three (bit_xor a b) c d (xor_byte a b fa fb) fc fd ∙ ap (λ n. bit_xor n (bit_xor (from_basis c) (from_basis d))) (linear a b fa fb)

-- a sum m of key bytes, a constant, and a byte x through the S-box
word_lane : (m c x n : ℕ) → m < 256 → c < 256 → x < 256 → from_basis m ≡ n
    → from_basis (bit_xor (bit_xor m c) (once x)) ≡ bit_xor n (bit_xor (s_box (from_basis x)) (key_from_basis c))
unfolding key_from_basis
word_lane m c x n fm fc fx e =
    let t = from_basis (once x) in
    let u = from_basis c in
    let one : bit_xor t 99 ≡ s_box (from_basis x) = agree_at (λ b. bit_xor (from_basis (once b)) 99) (λ b. s_box (from_basis b)) all_once x fx in
    let gone : bit_xor (bit_xor t 99) (bit_xor u 99) ≡ bit_xor t u = swap t 99 u 99 ∙ xor_zero_r (bit_xor t u) in
    linear (bit_xor m c) (once x) (xor_byte m c fm fc) (byte_by once all_once_bytes x fx)
    ∙ ap (λ k. bit_xor k t) (linear m c fm fc ∙ ap (λ k. bit_xor k u) e)
    ∙ xor_assoc n u t ∙ ap (bit_xor n) (xor_comm u t ∙ sym gone ∙ ap (λ k. bit_xor k (bit_xor u 99)) one)

abbrev pub key_by_code : ℕ → List ℕ → List ℕ → List ℕ
key_by_code rc k word = zip2 bit_xor (zip2 bit_xor (zip2 bit_xor (shuffled two_words (pairs k)) (pairs k)) (rc ∷ 91 ∷ 91 ∷ 91 ∷ rc ∷ 91 ∷ 91 ∷ 91 ∷ rc ∷ 91 ∷ 91 ∷ 91 ∷ rc ∷ 91 ∷ 91 ∷ 91 ∷ [])) word

lanes : (rc : ℕ) (k : List ℕ) → rc < 256 → IsBlock k
    → map from_basis (key_by_code rc k (map once (picked turned k))) ≡ next_by_code (key_from_basis rc) (map from_basis k) (sub_bytes (picked turned (map from_basis k)))
lanes rc k fr is =
    let fz : 91 < 256 = omega arith in
    sixteen (λ k. Each1 (Fits w8) k → map from_basis (key_by_code rc k (map once (picked turned k))) ≡ next_by_code (key_from_basis rc) (map from_basis k) (sub_bytes (picked turned (map from_basis k))))
    (λ a0 a1 a2 a3 a4 a5 a6 a7 a8 a9 a10 a11 a12 a13 a14 a15 f.
    joined (word_lane a0 rc a13 (from_basis a0) f.0.fits fr f.1.1.1.1.1.1.1.1.1.1.1.1.1.0.fits refl) (
    joined (word_lane a1 91 a14 (from_basis a1) f.1.0.fits fz f.1.1.1.1.1.1.1.1.1.1.1.1.1.1.0.fits refl ∙ ap (λ n. bit_xor (from_basis a1) (bit_xor (s_box (from_basis a14)) n)) no_constant) (
    joined (word_lane a2 91 a15 (from_basis a2) f.1.1.0.fits fz f.1.1.1.1.1.1.1.1.1.1.1.1.1.1.1.0.fits refl ∙ ap (λ n. bit_xor (from_basis a2) (bit_xor (s_box (from_basis a15)) n)) no_constant) (
    joined (word_lane a3 91 a12 (from_basis a3) f.1.1.1.0.fits fz f.1.1.1.1.1.1.1.1.1.1.1.1.0.fits refl ∙ ap (λ n. bit_xor (from_basis a3) (bit_xor (s_box (from_basis a12)) n)) no_constant) (
    joined (word_lane (bit_xor a0 a4) rc a13 (bit_xor (from_basis a0) (from_basis a4)) (xor_byte a0 a4 f.0.fits f.1.1.1.1.0.fits) fr f.1.1.1.1.1.1.1.1.1.1.1.1.1.0.fits (linear a0 a4 f.0.fits f.1.1.1.1.0.fits)) (
    joined (word_lane (bit_xor a1 a5) 91 a14 (bit_xor (from_basis a1) (from_basis a5)) (xor_byte a1 a5 f.1.0.fits f.1.1.1.1.1.0.fits) fz f.1.1.1.1.1.1.1.1.1.1.1.1.1.1.0.fits (linear a1 a5 f.1.0.fits f.1.1.1.1.1.0.fits) ∙ ap (λ n. bit_xor (bit_xor (from_basis a1) (from_basis a5)) (bit_xor (s_box (from_basis a14)) n)) no_constant) (
    joined (word_lane (bit_xor a2 a6) 91 a15 (bit_xor (from_basis a2) (from_basis a6)) (xor_byte a2 a6 f.1.1.0.fits f.1.1.1.1.1.1.0.fits) fz f.1.1.1.1.1.1.1.1.1.1.1.1.1.1.1.0.fits (linear a2 a6 f.1.1.0.fits f.1.1.1.1.1.1.0.fits) ∙ ap (λ n. bit_xor (bit_xor (from_basis a2) (from_basis a6)) (bit_xor (s_box (from_basis a15)) n)) no_constant) (
    joined (word_lane (bit_xor a3 a7) 91 a12 (bit_xor (from_basis a3) (from_basis a7)) (xor_byte a3 a7 f.1.1.1.0.fits f.1.1.1.1.1.1.1.0.fits) fz f.1.1.1.1.1.1.1.1.1.1.1.1.0.fits (linear a3 a7 f.1.1.1.0.fits f.1.1.1.1.1.1.1.0.fits) ∙ ap (λ n. bit_xor (bit_xor (from_basis a3) (from_basis a7)) (bit_xor (s_box (from_basis a12)) n)) no_constant) (
    joined (word_lane (bit_xor a0 (bit_xor a4 a8)) rc a13 (bit_xor (from_basis a0) (bit_xor (from_basis a4) (from_basis a8))) (xor_byte a0 (bit_xor a4 a8) f.0.fits (xor_byte a4 a8 f.1.1.1.1.0.fits f.1.1.1.1.1.1.1.1.0.fits)) fr f.1.1.1.1.1.1.1.1.1.1.1.1.1.0.fits (linear_three a0 a4 a8 f.0.fits f.1.1.1.1.0.fits f.1.1.1.1.1.1.1.1.0.fits)) (
    joined (word_lane (bit_xor a1 (bit_xor a5 a9)) 91 a14 (bit_xor (from_basis a1) (bit_xor (from_basis a5) (from_basis a9))) (xor_byte a1 (bit_xor a5 a9) f.1.0.fits (xor_byte a5 a9 f.1.1.1.1.1.0.fits f.1.1.1.1.1.1.1.1.1.0.fits)) fz f.1.1.1.1.1.1.1.1.1.1.1.1.1.1.0.fits (linear_three a1 a5 a9 f.1.0.fits f.1.1.1.1.1.0.fits f.1.1.1.1.1.1.1.1.1.0.fits) ∙ ap (λ n. bit_xor (bit_xor (from_basis a1) (bit_xor (from_basis a5) (from_basis a9))) (bit_xor (s_box (from_basis a14)) n)) no_constant) (
    joined (word_lane (bit_xor a2 (bit_xor a6 a10)) 91 a15 (bit_xor (from_basis a2) (bit_xor (from_basis a6) (from_basis a10))) (xor_byte a2 (bit_xor a6 a10) f.1.1.0.fits (xor_byte a6 a10 f.1.1.1.1.1.1.0.fits f.1.1.1.1.1.1.1.1.1.1.0.fits)) fz f.1.1.1.1.1.1.1.1.1.1.1.1.1.1.1.0.fits (linear_three a2 a6 a10 f.1.1.0.fits f.1.1.1.1.1.1.0.fits f.1.1.1.1.1.1.1.1.1.1.0.fits) ∙ ap (λ n. bit_xor (bit_xor (from_basis a2) (bit_xor (from_basis a6) (from_basis a10))) (bit_xor (s_box (from_basis a15)) n)) no_constant) (
    joined (word_lane (bit_xor a3 (bit_xor a7 a11)) 91 a12 (bit_xor (from_basis a3) (bit_xor (from_basis a7) (from_basis a11))) (xor_byte a3 (bit_xor a7 a11) f.1.1.1.0.fits (xor_byte a7 a11 f.1.1.1.1.1.1.1.0.fits f.1.1.1.1.1.1.1.1.1.1.1.0.fits)) fz f.1.1.1.1.1.1.1.1.1.1.1.1.0.fits (linear_three a3 a7 a11 f.1.1.1.0.fits f.1.1.1.1.1.1.1.0.fits f.1.1.1.1.1.1.1.1.1.1.1.0.fits) ∙ ap (λ n. bit_xor (bit_xor (from_basis a3) (bit_xor (from_basis a7) (from_basis a11))) (bit_xor (s_box (from_basis a12)) n)) no_constant) (
    joined (word_lane (bit_xor (bit_xor a0 a4) (bit_xor a8 a12)) rc a13 (bit_xor (bit_xor (from_basis a0) (from_basis a4)) (bit_xor (from_basis a8) (from_basis a12))) (xor_byte (bit_xor a0 a4) (bit_xor a8 a12) (xor_byte a0 a4 f.0.fits f.1.1.1.1.0.fits) (xor_byte a8 a12 f.1.1.1.1.1.1.1.1.0.fits f.1.1.1.1.1.1.1.1.1.1.1.1.0.fits)) fr f.1.1.1.1.1.1.1.1.1.1.1.1.1.0.fits (linear_four a0 a4 a8 a12 f.0.fits f.1.1.1.1.0.fits f.1.1.1.1.1.1.1.1.0.fits f.1.1.1.1.1.1.1.1.1.1.1.1.0.fits)) (
    joined (word_lane (bit_xor (bit_xor a1 a5) (bit_xor a9 a13)) 91 a14 (bit_xor (bit_xor (from_basis a1) (from_basis a5)) (bit_xor (from_basis a9) (from_basis a13))) (xor_byte (bit_xor a1 a5) (bit_xor a9 a13) (xor_byte a1 a5 f.1.0.fits f.1.1.1.1.1.0.fits) (xor_byte a9 a13 f.1.1.1.1.1.1.1.1.1.0.fits f.1.1.1.1.1.1.1.1.1.1.1.1.1.0.fits)) fz f.1.1.1.1.1.1.1.1.1.1.1.1.1.1.0.fits (linear_four a1 a5 a9 a13 f.1.0.fits f.1.1.1.1.1.0.fits f.1.1.1.1.1.1.1.1.1.0.fits f.1.1.1.1.1.1.1.1.1.1.1.1.1.0.fits) ∙ ap (λ n. bit_xor (bit_xor (bit_xor (from_basis a1) (from_basis a5)) (bit_xor (from_basis a9) (from_basis a13))) (bit_xor (s_box (from_basis a14)) n)) no_constant) (
    joined (word_lane (bit_xor (bit_xor a2 a6) (bit_xor a10 a14)) 91 a15 (bit_xor (bit_xor (from_basis a2) (from_basis a6)) (bit_xor (from_basis a10) (from_basis a14))) (xor_byte (bit_xor a2 a6) (bit_xor a10 a14) (xor_byte a2 a6 f.1.1.0.fits f.1.1.1.1.1.1.0.fits) (xor_byte a10 a14 f.1.1.1.1.1.1.1.1.1.1.0.fits f.1.1.1.1.1.1.1.1.1.1.1.1.1.1.0.fits)) fz f.1.1.1.1.1.1.1.1.1.1.1.1.1.1.1.0.fits (linear_four a2 a6 a10 a14 f.1.1.0.fits f.1.1.1.1.1.1.0.fits f.1.1.1.1.1.1.1.1.1.1.0.fits f.1.1.1.1.1.1.1.1.1.1.1.1.1.1.0.fits) ∙ ap (λ n. bit_xor (bit_xor (bit_xor (from_basis a2) (from_basis a6)) (bit_xor (from_basis a10) (from_basis a14))) (bit_xor (s_box (from_basis a15)) n)) no_constant) (
    joined (word_lane (bit_xor (bit_xor a3 a7) (bit_xor a11 a15)) 91 a12 (bit_xor (bit_xor (from_basis a3) (from_basis a7)) (bit_xor (from_basis a11) (from_basis a15))) (xor_byte (bit_xor a3 a7) (bit_xor a11 a15) (xor_byte a3 a7 f.1.1.1.0.fits f.1.1.1.1.1.1.1.0.fits) (xor_byte a11 a15 f.1.1.1.1.1.1.1.1.1.1.1.0.fits f.1.1.1.1.1.1.1.1.1.1.1.1.1.1.1.0.fits)) fz f.1.1.1.1.1.1.1.1.1.1.1.1.0.fits (linear_four a3 a7 a11 a15 f.1.1.1.0.fits f.1.1.1.1.1.1.1.0.fits f.1.1.1.1.1.1.1.1.1.1.1.0.fits f.1.1.1.1.1.1.1.1.1.1.1.1.1.1.1.0.fits) ∙ ap (λ n. bit_xor (bit_xor (bit_xor (from_basis a3) (from_basis a7)) (bit_xor (from_basis a11) (from_basis a15))) (bit_xor (s_box (from_basis a12)) n)) no_constant) (
    refl)))))))))))))))))
    k is.0 is.1

pub next_is : (rc : ℕ) (k word : List ℕ) → rc < 256 → IsBlock k → word ≡ map once (picked turned k) → map from_basis (key_by_code rc k word) ≡ next_round_key (key_from_basis rc) (map from_basis k)
next_is rc k word fr is e =
    ap (λ l. map from_basis (key_by_code rc k l)) e ∙ lanes rc k fr is ∙ next_of (key_from_basis rc) (map from_basis k) (length-map k from_basis ∙ is.0)
