-- The parts of bytes are bytes.
use Rattle.std.proofs.Common.{◌≡◌, ℕ, ◌+◌, ◌<◌, ◌≤◌, List, ◌++◌, length, get_or, take, drop, subst, inl, inr, arith}
use Rattle.std.proofs.Math.Seq.{take-append_seam, drop-append_seam}
use Rattle.std.proofs.lemmas.List.{length-take, length-drop, get_or_past}
use Rattle.std.proofs.lemmas.List.Elements.{All-take, All-drop, All-get_or, All-from_get_or}
use Rattle.std.proofs.lemmas.Bool.{cases_lt}
use Rattle.ns_types.specs.Bytes.{AreBytes}

-- what stands for a byte past the end is one too
pub each_byte : (bytes : List ℕ) → AreBytes bytes → (i : ℕ) → get_or bytes i 0 < 256
each_byte bytes h i =
    elim (cases_lt i (length bytes)) [
      | inl inside ↦ All-get_or (λ b. b < 256) bytes i 0 inside h
      | inr outside ↦ let past = get_or_past bytes i 0 outside in omega arith
    ]

-- what the elements of a slice of bytes are
pub AreBytes-slice : (bytes : List ℕ) → ((i : ℕ) → get_or bytes i 0 < 256) → AreBytes bytes
AreBytes-slice bytes h = All-from_get_or (λ b. b < 256) bytes 0 (λ i _. h i)

pub AreBytes-take : (bytes : List ℕ) (n : ℕ) → AreBytes bytes → AreBytes (take n bytes)
AreBytes-take bytes n h = All-take (λ b. b < 256) n bytes h

pub AreBytes-drop : (bytes : List ℕ) (from : ℕ) → AreBytes bytes → AreBytes (drop from bytes)
AreBytes-drop bytes from h = All-drop (λ b. b < 256) from bytes h

pub AreBytes-part : (bytes : List ℕ) (from n : ℕ) → AreBytes bytes → AreBytes (take n (drop from bytes))
AreBytes-part bytes from n h = AreBytes-take (drop from bytes) n (AreBytes-drop bytes from h)

pub AreBytes-front : (xs ys : List ℕ) → AreBytes (xs ++ ys) → AreBytes xs
AreBytes-front xs ys h = subst AreBytes (take-append_seam xs ys) (AreBytes-take (xs ++ ys) (length xs) h)

pub AreBytes-back : (xs ys : List ℕ) → AreBytes (xs ++ ys) → AreBytes ys
AreBytes-back xs ys h = subst AreBytes (drop-append_seam xs ys) (AreBytes-drop (xs ++ ys) (length xs) h)

-- the bytes of a part, and how many they are
pub part_byte : (bytes : List ℕ) (from n : ℕ) → AreBytes bytes → (i : ℕ) → get_or (take n (drop from bytes)) i 0 < 256
part_byte bytes from n h = each_byte (take n (drop from bytes)) (AreBytes-part bytes from n h)

pub length-part : (bytes : List ℕ) (from n : ℕ) → from + n ≤ length bytes → length (take n (drop from bytes)) ≡ n
length-part bytes from n h = omega (arith, length-take n (drop from bytes), length-drop from bytes)
