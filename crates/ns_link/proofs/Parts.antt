-- The parts of a datagram's bytes, and the numbers that they write.
use Rattle.std.proofs.Common.{◌≡◌, ℕ, ◌+◌, ◌%◌, ◌^◌, ◌<◌, ◌≤◌, List, ◌∷◌, ◌++◌, length, get_or, take, drop, refl, sym, ap, subst, ◌∙◌, arith, ℤ, pos, negsuc}
use Rattle.std.proofs.lemmas.List.{append_assoc, take-append-drop, drop_more, drop-drop}
use Rattle.std.proofs.lemmas.Nat.{be_bytes_2, be_bytes_4, be_bytes_8, from_be_bytes-to_be_bytes_2}
use Rattle.std.proofs.lemmas.Int.{of_z-to_z, to_z-of_z, SFits-int_wrap}
use Rattle.std.specs.Prelude.{FitsSigned}
use Rattle.std.specs.Int.{w16, w32, w64, to_be_bytes, from_be_bytes, cast_signed, cast_unsigned, int_wrap}
use Rattle.ns_types.specs.Bytes.{AreBytes}
use Rattle.ns_types.proofs.ByteLemmas.{part_byte, length-part}
use Rattle.ns_link.specs.Datagram.{two_complement}

-- a number that was read is below that power
pub below_8 : (bytes : List ℕ) (from : ℕ) → AreBytes bytes → from_be_bytes w64 (take 8 (drop from bytes)) < 2 ^ 64
below_8 bytes from h = below (take 8 (drop from bytes)) (part_byte bytes from 8 h)
  where
    below : (bs : List ℕ) → ((i : ℕ) → get_or bs i 0 < 256) → from_be_bytes w64 bs < 2 ^ 64
    below bs h = omega (arith, h 0, h 1, h 2, h 3, h 4, h 5, h 6, h 7)

below_2 : (bytes : List ℕ) (from : ℕ) → AreBytes bytes → from_be_bytes w16 (take 2 (drop from bytes)) < 2 ^ 16
below_2 bytes from h = below (take 2 (drop from bytes)) (part_byte bytes from 2 h)
  where
    below : (bs : List ℕ) → ((i : ℕ) → get_or bs i 0 < 256) → from_be_bytes w16 bs < 2 ^ 16
    below bs h = omega (arith, h 0, h 1)

-- a number that was read, written again
pub number_of_8 : (bytes : List ℕ) (from : ℕ) → AreBytes bytes → from + 8 ≤ length bytes → take 8 (drop from bytes) ≡ to_be_bytes w64 (from_be_bytes w64 (take 8 (drop from bytes)))
number_of_8 bytes from h n = sym (be_bytes_8 (take 8 (drop from bytes)) _ (length-part bytes from 8 n) (part_byte bytes from 8 h) refl)

pub number_of_4 : (bytes : List ℕ) (from : ℕ) → AreBytes bytes → from + 4 ≤ length bytes → take 4 (drop from bytes) ≡ to_be_bytes w32 (from_be_bytes w32 (take 4 (drop from bytes)))
number_of_4 bytes from h n = sym (be_bytes_4 (take 4 (drop from bytes)) _ (length-part bytes from 4 n) (part_byte bytes from 4 h) refl)

pub number_of_2 : (bytes : List ℕ) (from : ℕ) → AreBytes bytes → from + 2 ≤ length bytes → take 2 (drop from bytes) ≡ two_complement (cast_signed w16 (from_be_bytes w16 (take 2 (drop from bytes))))
number_of_2 bytes from h n =
    sym (be_bytes_2 (take 2 (drop from bytes)) _ (length-part bytes from 2 n) (part_byte bytes from 2 h) (of_z-to_z w16 _ (below_2 bytes from h)))

-- a signed number that was read fits
pub signed_fits : (bytes : List ℕ) (from : ℕ) → AreBytes bytes → FitsSigned w16 (cast_signed w16 (from_be_bytes w16 (take 2 (drop from bytes))))
unfolding int_wrap
signed_fits bytes from h = fits (from_be_bytes w16 (take 2 (drop from bytes))) (below_2 bytes from h)
  where
    fits : (n : ℕ) → n < 2 ^ 16 → FitsSigned w16 (cast_signed w16 n)
    fits n lt = let e : n % 2 ^ 16 ≡ n = omega arith in subst (λ k. FitsSigned w16 (cast_signed w16 k)) e (SFits-int_wrap w16 (pos n))

-- a signed number that was written, read again
pub signed_again : (z : ℤ) → FitsSigned w16 z → cast_signed w16 (from_be_bytes w16 (two_complement z)) ≡ z
signed_again z h = ap (cast_signed w16) (from_be_bytes-to_be_bytes_2 (cast_unsigned w16 z) (below z h)) ∙ to_z-of_z w16 z h
  where
    below : (z : ℤ) → FitsSigned w16 z → cast_unsigned w16 z < 2 ^ 16
    below (pos n) h = omega (arith, h.sfits)
    below (negsuc n) h = omega arith

-- the bytes from a place on: the byte there, or a part of them, and the others
one_more : (bytes : List ℕ) (from : ℕ) → from < length bytes → drop from bytes ≡ get_or bytes from 0 ∷ drop (from + 1) bytes
one_more bytes from h = drop_more bytes from 0 h

some_more : (bytes : List ℕ) (from n : ℕ) → drop from bytes ≡ take n (drop from bytes) ++ drop (from + n) bytes
some_more bytes from n = sym (take-append-drop n (drop from bytes)) ∙ ap (λ rest. take n (drop from bytes) ++ rest) (drop-drop n from bytes)

-- the parts, joined in the layout's way
joined : (a b d n : ℕ) (g m f r s rest : List ℕ) → a ∷ b ∷ (g ++ (m ++ (f ++ (d ∷ (r ++ (s ++ (n ∷ rest))))))) ≡ a ∷ b ∷ g ++ m ++ f ++ (d ∷ r ++ s ++ (n ∷ rest))
joined a b d n g m f r s rest =
    let tail = (d ∷ r) ++ s ++ (n ∷ rest) in
    ap (λ t. a ∷ b ∷ (g ++ (m ++ (f ++ t)))) (sym (append_assoc (d ∷ r) s (n ∷ rest)))
    ∙ sym (append_assoc ((a ∷ b ∷ g) ++ m) f tail ∙ append_assoc (a ∷ b ∷ g) m (f ++ tail))

-- the bytes in the parts of a datagram
pub parts-are : (bytes : List ℕ) → 28 ≤ length bytes →
    bytes ≡ get_or bytes 0 0 ∷ get_or bytes 1 0 ∷ take 8 (drop 2 bytes) ++ take 8 (drop 10 bytes) ++ take 4 (drop 18 bytes)
    ++ (get_or bytes 22 0 ∷ take 2 (drop 23 bytes) ++ take 2 (drop 25 bytes) ++ (get_or bytes 27 0 ∷ drop 28 bytes))
parts-are bytes h =
    let at_27 : drop 27 bytes ≡ get_or bytes 27 0 ∷ drop 28 bytes = one_more bytes 27 (omega arith) in
    let at_25 = some_more bytes 25 2 ∙ ap (λ rest. take 2 (drop 25 bytes) ++ rest) at_27 in
    let at_23 = some_more bytes 23 2 ∙ ap (λ rest. take 2 (drop 23 bytes) ++ rest) at_25 in
    let at_22 = one_more bytes 22 (omega arith) ∙ ap (λ rest. get_or bytes 22 0 ∷ rest) at_23 in
    let at_18 = some_more bytes 18 4 ∙ ap (λ rest. take 4 (drop 18 bytes) ++ rest) at_22 in
    let at_10 = some_more bytes 10 8 ∙ ap (λ rest. take 8 (drop 10 bytes) ++ rest) at_18 in
    let at_2 = some_more bytes 2 8 ∙ ap (λ rest. take 8 (drop 2 bytes) ++ rest) at_10 in
    let at_1 = one_more bytes 1 (omega arith) ∙ ap (λ rest. get_or bytes 1 0 ∷ rest) at_2 in
    one_more bytes 0 (omega arith) ∙ ap (λ rest. get_or bytes 0 0 ∷ rest) at_1
    ∙ joined (get_or bytes 0 0) (get_or bytes 1 0) (get_or bytes 22 0) (get_or bytes 27 0) (take 8 (drop 2 bytes)) (take 8 (drop 10 bytes)) (take 4 (drop 18 bytes)) (take 2 (drop 23 bytes)) (take 2 (drop 25 bytes)) (drop 28 bytes)

pub same_parts : {a a' b b' n n' : ℕ} {g g' m m' f f' r r' s s' : List ℕ} (d : ℕ) (rest : List ℕ) → a ≡ a' → b ≡ b' → g ≡ g' → m ≡ m' → f ≡ f' → r ≡ r' → s ≡ s' → n ≡ n' →
    a ∷ b ∷ g ++ m ++ f ++ (d ∷ r ++ s ++ (n ∷ rest)) ≡ a' ∷ b' ∷ g' ++ m' ++ f' ++ (d ∷ r' ++ s' ++ (n' ∷ rest))
same_parts d rest e_a e_b e_g e_m e_f e_r e_s e_n = cc
