-- A block doubled by lanes is the block doubled.
use Rattle.std.proofs.Common.{◌≡◌, ◌≢◌, ℕ, ◌+◌, ◌*◌, ◌/◌, ◌%◌, ◌^◌, ◌<◌, List, [], ◌∷◌, ◌++◌, replicate, bit_xor, w8, Fits, refl, ap, ◌∙◌, arith, if◌then◌else◌, ◌==◌, inl, inr, ◌⊎◌}
use lib.ListN.{get_or}
use Rattle.std.proofs.lemmas.Bool.Decides.{eqb_tells}
use lib.Lanes.{Each1, zip2, pick_l}
use Rattle.ns_aes_cmac.specs.Aes.{xor_bytes}
use Rattle.ns_aes_cmac.specs.Cmac.{doubled, shifted_left}
use Rattle.ns_aes_cmac.proofs.Bytes.{agree_at}
use Rattle.ns_aes_cmac.proofs.Lanes.{IsBlock}
use Rattle.ns_aes_cmac.proofs.Mix.{sixteen, joined}

with_no_bit : (a : ℕ) → a < 256 → bit_xor (a * 2 % 256) 0 ≡ a * 2 % 256 + 0
with_no_bit = agree_at (λ a. bit_xor (a * 2 % 256) 0) (λ a. a * 2 % 256 + 0) refl

with_a_bit : (a : ℕ) → a < 256 → bit_xor (a * 2 % 256) 1 ≡ a * 2 % 256 + 1
with_a_bit = agree_at (λ a. bit_xor (a * 2 % 256) 1) (λ a. a * 2 % 256 + 1) refl

top_cases : (b : ℕ) → b < 256 → (b / 128 ≡ 0) ⊎ (b / 128 ≡ 1)
top_cases b small = elim (eqb_tells (b / 128) 0) [ inl same ↦ inl same.1 | inr other ↦ (let differs : b / 128 ≢ 0 = other.1 in inr (omega arith)) ]

-- a byte shifted left, and the top bit of the next one
no_carry : (a b : ℕ) → a < 256 → b < 256 → bit_xor (a * 2 % 256) (b / 128) ≡ a * 2 % 256 + b / 128
no_carry a b small_a small_b = elim (top_cases b small_b) [ inl e ↦ rw e (with_no_bit a small_a) | inr e ↦ rw e (with_a_bit a small_a) ]

reduced : (b : ℕ) → b < 256 → 0x87 * (b / 128) ≡ (if b / 128 == 1 then 0x87 else 0)
reduced b small = elim (top_cases b small) [ inl e ↦ rw e refl | inr e ↦ rw e refl ]

abbrev next_lane : List ℕ
next_lane = 1 ∷ 2 ∷ 3 ∷ 4 ∷ 5 ∷ 6 ∷ 7 ∷ 8 ∷ 9 ∷ 10 ∷ 11 ∷ 12 ∷ 13 ∷ 14 ∷ 15 ∷ 16 ∷ []

abbrev pub double_by_code : List ℕ → ℕ → List ℕ
double_by_code v r =
    zip2 bit_xor (zip2 bit_xor (zip2 (λ a b. a * 2 ^ b % 256) v (replicate 16 1)) (pick_l 0 (zip2 (λ a b. a / 2 ^ b) v (replicate 16 7) ++ replicate 16 0) next_lane))
    (0 ∷ 0 ∷ 0 ∷ 0 ∷ 0 ∷ 0 ∷ 0 ∷ 0 ∷ 0 ∷ 0 ∷ 0 ∷ 0 ∷ 0 ∷ 0 ∷ 0 ∷ (0x87 * (r / 128)) ∷ [])

pub doubled_is : (v : List ℕ) (r : ℕ) → IsBlock v → r ≡ get_or v 0 r → double_by_code v r ≡ doubled v
unfolding xor_bytes shifted_left
doubled_is v r block first =
    sixteen (λ v. Each1 (Fits w8) v → r ≡ get_or v 0 r → double_by_code v r ≡ doubled v)
    (λ a0 a1 a2 a3 a4 a5 a6 a7 a8 a9 a10 a11 a12 a13 a14 a15 fits first.
    joined (ap (λ n. bit_xor n 0) (no_carry a0 a1 fits.0.fits fits.1.0.fits)) (
    joined (ap (λ n. bit_xor n 0) (no_carry a1 a2 fits.1.0.fits fits.1.1.0.fits)) (
    joined (ap (λ n. bit_xor n 0) (no_carry a2 a3 fits.1.1.0.fits fits.1.1.1.0.fits)) (
    joined (ap (λ n. bit_xor n 0) (no_carry a3 a4 fits.1.1.1.0.fits fits.1.1.1.1.0.fits)) (
    joined (ap (λ n. bit_xor n 0) (no_carry a4 a5 fits.1.1.1.1.0.fits fits.1.1.1.1.1.0.fits)) (
    joined (ap (λ n. bit_xor n 0) (no_carry a5 a6 fits.1.1.1.1.1.0.fits fits.1.1.1.1.1.1.0.fits)) (
    joined (ap (λ n. bit_xor n 0) (no_carry a6 a7 fits.1.1.1.1.1.1.0.fits fits.1.1.1.1.1.1.1.0.fits)) (
    joined (ap (λ n. bit_xor n 0) (no_carry a7 a8 fits.1.1.1.1.1.1.1.0.fits fits.1.1.1.1.1.1.1.1.0.fits)) (
    joined (ap (λ n. bit_xor n 0) (no_carry a8 a9 fits.1.1.1.1.1.1.1.1.0.fits fits.1.1.1.1.1.1.1.1.1.0.fits)) (
    joined (ap (λ n. bit_xor n 0) (no_carry a9 a10 fits.1.1.1.1.1.1.1.1.1.0.fits fits.1.1.1.1.1.1.1.1.1.1.0.fits)) (
    joined (ap (λ n. bit_xor n 0) (no_carry a10 a11 fits.1.1.1.1.1.1.1.1.1.1.0.fits fits.1.1.1.1.1.1.1.1.1.1.1.0.fits)) (
    joined (ap (λ n. bit_xor n 0) (no_carry a11 a12 fits.1.1.1.1.1.1.1.1.1.1.1.0.fits fits.1.1.1.1.1.1.1.1.1.1.1.1.0.fits)) (
    joined (ap (λ n. bit_xor n 0) (no_carry a12 a13 fits.1.1.1.1.1.1.1.1.1.1.1.1.0.fits fits.1.1.1.1.1.1.1.1.1.1.1.1.1.0.fits)) (
    joined (ap (λ n. bit_xor n 0) (no_carry a13 a14 fits.1.1.1.1.1.1.1.1.1.1.1.1.1.0.fits fits.1.1.1.1.1.1.1.1.1.1.1.1.1.1.0.fits)) (
    joined (ap (λ n. bit_xor n 0) (no_carry a14 a15 fits.1.1.1.1.1.1.1.1.1.1.1.1.1.1.0.fits fits.1.1.1.1.1.1.1.1.1.1.1.1.1.1.1.0.fits)) (
    joined (ap (λ n. bit_xor n (0x87 * (r / 128))) (with_no_bit a15 fits.1.1.1.1.1.1.1.1.1.1.1.1.1.1.1.0.fits) ∙ ap (bit_xor (a15 * 2 % 256 + 0)) (ap (λ b. 0x87 * (b / 128)) first ∙ reduced a0 fits.0.fits)) (
    refl)))))))))))))))))
    v block.0 block.1 first
