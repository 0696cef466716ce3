-- A device that deciphers a Join-Accept has what was enciphered.
use Rattle.std.proofs.Common.{◌≡◌, ℕ, ◌<◌, ◌⊎◌, List, ◌++◌, length, take, drop, inl, inr, refl, ap, sym, subst, ◌∙◌, arith, length-append, length-take, length-drop}
use Rattle.std.proofs.Math.Seq.{take-append_seam, drop-append_seam}
use Rattle.std.proofs.lemmas.List.{take_all, take-append-drop, append-nil}
use Rattle.std.proofs.lemmas.List.Elements.{All-take, All-drop}
use Rattle.ns_types.specs.Bytes.{AreBytes}
use Rattle.ns_aes_cmac.specs.Aes.{aes, unaes, IsBlock}
use Rattle.ns_secure.specs.Cipher.{accept_cipher, accept_decipher, each_block, numbers}
use Rattle.ns_device.proofs.Blocks.{length-unaes}

-- what is put together as enciphering undoes deciphering
abbrev pub Undoes : Type 0
Undoes = (key b : List ℕ) → IsBlock key → IsBlock b → aes key (unaes key b) ≡ b

-- one block, and two
one_block : (change : List ℕ → List ℕ) (a : List ℕ) → length a ≡ 16 → each_block change a ≡ change a
unfolding numbers
one_block change a e = rw (e, take_all 16 a (omega (arith, e))) (append-nil (change a))

two_blocks : (change : List ℕ → List ℕ) (a b : List ℕ) → length a ≡ 16 → length b ≡ 16 → each_block change (a ++ b) ≡ change a ++ change b
unfolding numbers
two_blocks change a b e f =
    let size : length (a ++ b) ≡ 32 = omega (arith, length-append a b, e, f) in
    let first : take 16 (a ++ b) ≡ a = subst (λ n. take n (a ++ b) ≡ a) e (take-append_seam a b) in
    let rest : drop 16 (a ++ b) ≡ b = subst (λ n. drop n (a ++ b) ≡ b) e (drop-append_seam a b) in
    let second : take 16 (drop 16 (a ++ b)) ≡ b = ap (take 16) rest ∙ take_all 16 b (omega (arith, f)) in
    rw (size, first, second, append-nil (change b)) refl

undone_16 : Undoes → (key a : List ℕ) → IsBlock key → IsBlock a → accept_decipher key (accept_cipher key a) ≡ a
undone_16 undoes key a k h =
    ap (accept_decipher key) (one_block (unaes key) a h.0)
    ∙ one_block (aes key) (unaes key a) (length-unaes key a k.0)
    ∙ undoes key a k h

undone_32 : Undoes → (key a b : List ℕ) → IsBlock key → IsBlock a → IsBlock b → accept_decipher key (accept_cipher key (a ++ b)) ≡ a ++ b
undone_32 undoes key a b k h g =
    ap (accept_decipher key) (two_blocks (unaes key) a b h.0 g.0)
    ∙ two_blocks (aes key) (unaes key a) (unaes key b) (length-unaes key a k.0) (length-unaes key b k.0)
    ∙ (ap (λ x. x ++ aes key (unaes key b)) (undoes key a k h) ∙ ap (λ y. a ++ y) (undoes key b k g))

-- the plain fields and the MIC of a Join-Accept, 16 or 32 bytes
pub undone : Undoes → (key plain : List ℕ) → IsBlock key → AreBytes plain → (length plain ≡ 16) ⊎ (length plain ≡ 32) → accept_decipher key (accept_cipher key plain) ≡ plain
undone undoes key plain k bytes size =
    elim size [
      | inl short ↦ undone_16 undoes key plain k (short, bytes)
      | inr long ↦ (
          let front : IsBlock (take 16 plain) = (omega (arith, length-take 16 plain, long), All-take (λ b. b < 256) 16 plain bytes) in
          let back : IsBlock (drop 16 plain) = (omega (arith, length-drop 16 plain, long), All-drop (λ b. b < 256) 16 plain bytes) in
          subst (λ p. accept_decipher key (accept_cipher key p) ≡ p) (take-append-drop 16 plain) (undone_32 undoes key (take 16 plain) (drop 16 plain) k front back))
    ]

pub length-accept_cipher : (key plain : List ℕ) → length key ≡ 16 → (length plain ≡ 16) ⊎ (length plain ≡ 32) → length (accept_cipher key plain) ≡ length plain
length-accept_cipher key plain k size =
    elim size [
      | inl short ↦ (
          let one : accept_cipher key plain ≡ unaes key plain = one_block (unaes key) plain short in
          ap length one ∙ length-unaes key plain k ∙ sym short)
      | inr long ↦ (
          let front : length (take 16 plain) ≡ 16 = omega (arith, length-take 16 plain, long) in
          let back : length (drop 16 plain) ≡ 16 = omega (arith, length-drop 16 plain, long) in
          let a = unaes key (take 16 plain) in
          let b = unaes key (drop 16 plain) in
          let both : accept_cipher key plain ≡ a ++ b = subst (λ p. accept_cipher key p ≡ a ++ b) (take-append-drop 16 plain) (two_blocks (unaes key) (take 16 plain) (drop 16 plain) front back) in
          let sizes : length (a ++ b) ≡ 32 = omega (arith, length-append a b, length-unaes key (take 16 plain) k, length-unaes key (drop 16 plain) k) in
          ap length both ∙ sizes ∙ sym long)
    ]
