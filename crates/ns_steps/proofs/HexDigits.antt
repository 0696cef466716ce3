-- Hex digits by look-ups of their halves, and the bytes of pairs of digits.
use Rattle.std.proofs.Common.{◌≡◌, ◌↔◌, ◌⊎◌, ℕ, zero, suc, ◌+◌, Result, length-take-le, length-drop, take-append-drop, get_or, ◌*◌, ◌%◌, ◌^◌, ◌<◌, ◌≤◌, leb, Bool, true, false, if◌then◌else◌, List, [], ◌∷◌, ◌++◌, map, length, take, drop, replicate, bit_or, cond, w8, Fits, refl, sym, ap, subst, ◌∙◌, arith, inl, inr, Ok, Err, IsErr}
use Rattle.std.proofs.lemmas.Bool.{cases_lt, leb-true, leb-false}
use Rattle.std.proofs.lemmas.Nat.{le_or_l, le_or_r, or_lt}
use Rattle.std.proofs.lemmas.List.{length-map, take-take, take_all}
use Rattle.std.proofs.lemmas.Simd.{zip2_splat_left, tops_compared, mask_l-mod}
use Rattle.std.specs.Simd.Lanes.{Each1, zip2, mask_l, top, pick_l, chunk}
use Rattle.std.proofs.Math.Seq.{take-add}
use Rattle.std.proofs.lemmas.Simd.{Each1-chunk, length-chunk, chunk-fits}
use Rattle.hex.proofs.Pairs.{cons_byte, decode_pairs-ok_pair, decode_pairs-err_pair}
use Rattle.hex.specs.Hex.{decode_pairs}
use Rattle.hex.specs.declared.error.FromHexError.{FromHexError}
use Rattle.ns_aes_cmac.proofs.Bytes.{agree_at}
use Rattle.ns_aes_cmac.proofs.Lanes.{IsBlock}
use Rattle.ns_aes_cmac.proofs.Mix.{sixteen, joined}
use Rattle.ns_steps.specs.HexText.{digit_or_16}
use Rattle.ns_steps.specs.Private.HexDigits.{value_or_more, AreDigits, bytes_of}
use Rattle.ns_steps.proofs.HexTextLemmas.{pair_of_digits, pair_refused}

-- ---- the look-ups are held against the definition at each of the 256 bytes, by computing

cut : ℕ → ℕ
cut v = if leb 16 v then 16 else v

cut_small : (v : ℕ) → v < 16 → cut v ≡ v
unfolding cut
cut_small v h = grind (arith, leb-true)

cut_large : (v : ℕ) → 16 ≤ v → cut v ≡ 16
unfolding cut
cut_large v h = grind (arith, leb-false)

all_right : (c : ℕ) → c < 256 → cut (value_or_more c) ≡ digit_or_16 c
unfolding cut
all_right = agree_at (λ c. cut (value_or_more c)) digit_or_16 refl

value_of_digit : (c : ℕ) → c < 256 → digit_or_16 c < 16 → value_or_more c ≡ digit_or_16 c
value_of_digit c byte small =
    elim (cases_lt (value_or_more c) 16) [
      | inl below ↦ sym (cut_small (value_or_more c) below) ∙ all_right c byte
      | inr above ↦ absurd (omega (arith, small, all_right c byte, cut_large (value_or_more c) above))
    ]

digit_of_value : (c : ℕ) → c < 256 → value_or_more c < 16 → digit_or_16 c < 16
digit_of_value c byte small = omega (arith, small, all_right c byte, cut_small (value_or_more c) small)

-- ---- whether all lanes are below 16

one_small : (x n : ℕ) (b : Bool) → leb 16 x ≡ b → (cond {A = ℕ} b 1 0 + 2 * n ≡ 0) ↔ ((x < 16) × (n ≡ 0))
one_small x n true e = (λ h. absurd (omega arith), λ h. absurd (omega (arith, h.0, leb-true 16 x e)))
one_small x n false e = (λ h. (leb-false 16 x e, omega arith), λ h. omega (arith, h.1))

none_large : (v : List ℕ) → (mask_l (map (leb 16) v) ≡ 0) ↔ Each1 (λ x. x < 16) v
none_large [] = (λ h. tt, λ h. refl)
none_large (x ∷ xs) =
    let here = one_small x (mask_l (map (leb 16) xs)) (leb 16 x) refl in
    let rest = none_large xs in
    (λ h. ((here.0 h).0, rest.0 (here.0 h).1), λ h. here.1 (h.0, rest.1 h.1))

abbrev pub tested : List ℕ → ℕ
tested v = mask_l (map (top 7) (zip2 (λ a b. cond (leb a b) 255 0) (replicate 16 16) v)) % 2 ^ 64

tested_is : (v : List ℕ) → length v ≡ 16 → tested v ≡ mask_l (map (leb 16) v)
tested_is v long =
    ap (λ ms. mask_l ms % 2 ^ 64) (tops_compared w8 leb (replicate 16 16) v ∙ zip2_splat_left leb 16 16 v long)
    ∙ mask_l-mod (map (leb 16) v) 64 (omega (arith, length-map v (leb 16), long))

pub are_small : (v : List ℕ) → length v ≡ 16 → (tested v ≡ 0) ↔ Each1 (λ x. x < 16) v
are_small v long = (λ h. (none_large v).0 (sym (tested_is v long) ∙ h), λ h. tested_is v long ∙ (none_large v).1 h)

-- ---- 32 digits

abbrev evens : List ℕ
evens = 0 ∷ 2 ∷ 4 ∷ 6 ∷ 8 ∷ 10 ∷ 12 ∷ 14 ∷ 16 ∷ 18 ∷ 20 ∷ 22 ∷ 24 ∷ 26 ∷ 28 ∷ 30 ∷ []

abbrev odds : List ℕ
odds = 1 ∷ 3 ∷ 5 ∷ 7 ∷ 9 ∷ 11 ∷ 13 ∷ 15 ∷ 17 ∷ 19 ∷ 21 ∷ 23 ∷ 25 ∷ 27 ∷ 29 ∷ 31 ∷ []

abbrev pub both_small : List ℕ → List ℕ → Type 0
both_small a b = Each1 (λ x. x < 16) (zip2 bit_or (map value_or_more a) (map value_or_more b))

each_append : (P : ℕ → Type 0) (xs ys : List ℕ) → Each1 P (xs ++ ys) ↔ (Each1 P xs × Each1 P ys)
each_append P [] ys = (λ h. (tt, h), λ h. h.1)
each_append P (x ∷ xs) ys =
    let rest = each_append P xs ys in
    (λ h. ((h.0, (rest.0 h.1).0), (rest.0 h.1).1), λ h. (h.0.0, rest.1 (h.0.1, h.1)))

pub are_digits_append : (xs ys : List ℕ) → AreDigits (xs ++ ys) ↔ (AreDigits xs × AreDigits ys)
are_digits_append xs ys = each_append (λ c. digit_or_16 c < 16) xs ys

both_digits : (a b : List ℕ) → length a ≡ length b → Each1 (Fits w8) a → Each1 (Fits w8) b → both_small a b ↔ (AreDigits a × AreDigits b)
both_digits [] [] same fa fb = (λ h. (tt, tt), λ h. tt)
both_digits [] (y ∷ ys) same fa fb = absurd (omega arith)
both_digits (x ∷ xs) [] same fa fb = absurd (omega arith)
both_digits (x ∷ xs) (y ∷ ys) same fa fb =
    let v = value_or_more x in
    let w = value_or_more y in
    let rest = both_digits xs ys (omega arith) fa.1 fb.1 in
    let lower : v ≤ bit_or v w = le_or_l v w in
    let upper : w ≤ bit_or v w = le_or_r v w in (
      λ h.
          let small : bit_or v w < 16 = h.0 in
          ((digit_of_value x fa.0.fits (omega (arith, small, lower)), (rest.0 h.1).0), (digit_of_value y fb.0.fits (omega (arith, small, upper)), (rest.0 h.1).1)),
      λ h.
          let first : v < 16 = omega (arith, h.0.0, value_of_digit x fa.0.fits h.0.0) in
          let second : w < 16 = omega (arith, h.1.0, value_of_digit y fb.0.fits h.1.0) in
          (or_lt 4 v w first second, rest.1 (h.0.1, h.1.1)),
    )

-- where all 32 are digits, the values of both halves are below 16 side by side
pub small_digits : (a b : List ℕ) → IsBlock a → IsBlock b → both_small a b ↔ AreDigits (a ++ b)
small_digits a b ia ib =
    let both = both_digits a b (ia.0 ∙ sym ib.0) ia.1 ib.1 in
    let joint = are_digits_append a b in
    (λ h. joint.1 (both.0 h), λ h. both.1 (joint.0 h))

abbrev pub bytes_by_code : List ℕ → List ℕ → List ℕ
bytes_by_code v w =
    zip2 (λ x y. (x + y) % 256) (zip2 (λ x y. x * 2 ^ y % 256) (pick_l 0 (v ++ w) evens) (replicate 16 4)) (pick_l 0 (v ++ w) odds)

-- every other digit from the first on, and from the second on
abbrev firsts : List ℕ → List ℕ
firsts [] = []
firsts (high ∷ []) = []
firsts (high ∷ low ∷ rest) = high ∷ firsts rest

abbrev seconds : List ℕ → List ℕ
seconds [] = []
seconds (high ∷ []) = []
seconds (high ∷ low ∷ rest) = low ∷ seconds rest

lane : (x y : ℕ) → x < 256 → y < 256 → digit_or_16 x < 16 → digit_or_16 y < 16 → (value_or_more x * 16 % 256 + value_or_more y) % 256 ≡ digit_or_16 x * 16 + digit_or_16 y
lane x y fx fy dx dy = omega (arith, dx, dy, value_of_digit x fx dx, value_of_digit y fy dy)

lanes : (text : List ℕ) → Each1 (Fits w8) text → AreDigits text
    → zip2 (λ x y. (x + y) % 256) (zip2 (λ x y. x * 2 ^ y % 256) (map value_or_more (firsts text)) (map (λ _. 4) (firsts text))) (map value_or_more (seconds text)) ≡ bytes_of text
lanes [] fits digits = refl
lanes (a ∷ []) fits digits = refl
lanes (a ∷ b ∷ rest) fits digits = joined (lane a b fits.0.fits fits.1.0.fits digits.0 digits.1.0) (lanes rest fits.1.1 digits.1.1)

-- what is shown of two halves, once each is split into its sixteen digits
abbrev HasBytes : List ℕ → List ℕ → Type 0
HasBytes v w = Each1 (Fits w8) (v ++ w) → AreDigits (v ++ w) → bytes_by_code (map value_or_more v) (map value_or_more w) ≡ bytes_of (v ++ w)

-- the bytes of 32 digits, by their values
pub bytes_are : (a b : List ℕ) → IsBlock a → IsBlock b → AreDigits (a ++ b) → bytes_by_code (map value_or_more a) (map value_or_more b) ≡ bytes_of (a ++ b)
bytes_are a b ia ib digits =
    sixteen (λ v. HasBytes v b)
    (λ a0 a1 a2 a3 a4 a5 a6 a7 a8 a9 a10 a11 a12 a13 a14 a15.
    sixteen (HasBytes (a0 ∷ a1 ∷ a2 ∷ a3 ∷ a4 ∷ a5 ∷ a6 ∷ a7 ∷ a8 ∷ a9 ∷ a10 ∷ a11 ∷ a12 ∷ a13 ∷ a14 ∷ a15 ∷ []))
    (λ b0 b1 b2 b3 b4 b5 b6 b7 b8 b9 b10 b11 b12 b13 b14 b15.
    lanes ((a0 ∷ a1 ∷ a2 ∷ a3 ∷ a4 ∷ a5 ∷ a6 ∷ a7 ∷ a8 ∷ a9 ∷ a10 ∷ a11 ∷ a12 ∷ a13 ∷ a14 ∷ a15 ∷ []) ++ (b0 ∷ b1 ∷ b2 ∷ b3 ∷ b4 ∷ b5 ∷ b6 ∷ b7 ∷ b8 ∷ b9 ∷ b10 ∷ b11 ∷ b12 ∷ b13 ∷ b14 ∷ b15 ∷ [])))
    b ib.0)
    a ia.0 ((each_append (Fits w8) a b).1 (ia.1, ib.1)) digits

halves_of : (text : List ℕ) → length text ≡ 32 → chunk 0 16 text ++ chunk 16 16 text ≡ text
halves_of text long = ap (λ l. take 16 text ++ l) (take_all 16 (drop 16 text) (omega (arith, length-drop 16 text, long))) ∙ take-append-drop 16 text

module _ (text v w : List ℕ) (long : length text ≡ 32) (fits : (i : ℕ) → Fits w8 (get_or text i 0))
    (front : v ≡ map value_or_more (chunk 0 16 text)) (back : w ≡ map value_or_more (chunk 16 16 text)) where
  abbrev a : List ℕ
  a = chunk 0 16 text

  abbrev b : List ℕ
  b = chunk 16 16 text

  is_a : IsBlock a
  is_a = (length-chunk 0 16 text (omega (arith, long)), chunk-fits w8 0 16 text fits)

  is_b : IsBlock b
  is_b = (length-chunk 16 16 text (omega (arith, long)), chunk-fits w8 16 16 text fits)

  both_are : zip2 bit_or v w ≡ zip2 bit_or (map value_or_more a) (map value_or_more b)
  both_are j = zip2 bit_or (front j) (back j)

  -- 32 bytes whose values are below 16
  pub sixteen_read : Each1 (λ x. x < 16) (zip2 bit_or v w) → AreDigits text × (bytes_by_code v w ≡ bytes_of text)
  sixteen_read h =
      let digits : AreDigits (a ++ b) = (small_digits a b is_a is_b).0 (subst (Each1 (λ x. x < 16)) both_are h) in (
        subst AreDigits (halves_of text long) digits,
        (λ j. bytes_by_code (front j) (back j)) ∙ bytes_are a b is_a is_b digits ∙ ap bytes_of (halves_of text long),
      )

  -- 32 digits
  pub sixteen_small : AreDigits text → Each1 (λ x. x < 16) (zip2 bit_or v w)
  sixteen_small h = subst (Each1 (λ x. x < 16)) (sym both_are) ((small_digits a b is_a is_b).1 (subst AreDigits (sym (halves_of text long)) h))

-- ---- texts

-- digits are decoded
pub decodes : (text : List ℕ) (i : ℕ) → length text % 2 ≡ 0 → AreDigits text → decode_pairs i text ≡ Ok (bytes_of text)
unfolding decode_pairs
decodes [] i even digits = refl
decodes (a ∷ []) i even digits = absurd (omega arith)
decodes (a ∷ b ∷ rest) i even digits =
    decode_pairs-ok_pair i a b (digit_or_16 a * 16 + digit_or_16 b) rest (pair_of_digits a b i (omega (arith, digits.0)) (omega (arith, digits.1.0)))
    ∙ ap (cons_byte (digit_or_16 a * 16 + digit_or_16 b)) (decodes rest (i + 2) (omega arith) digits.1.1)

refused_rest : (v : ℕ) (r : Result (List ℕ) FromHexError) → IsErr r → IsErr (cons_byte v r)
refused_rest v (Ok bytes) h = absurd (cc h)
refused_rest v (Err e) h = refl

refused_pair : (a b i : ℕ) (rest : List ℕ) → (15 < digit_or_16 a) ⊎ (15 < digit_or_16 b) → IsErr (decode_pairs i (a ∷ b ∷ rest))
refused_pair a b i rest bad =
    let (fault, is) = pair_refused a b i bad in
    rw (decode_pairs-err_pair i a b fault rest is) refl

-- what are not all digits is refused
pub refuses : (text : List ℕ) (i : ℕ) → length text % 2 ≡ 0 → ¬ (AreDigits text) → IsErr (decode_pairs i text)
refuses [] i even never = absurd (never tt)
refuses (a ∷ []) i even never = absurd (omega arith)
refuses (a ∷ b ∷ rest) i even never =
    elim (cases_lt (digit_or_16 a) 16) [
      | inr bad ↦ refused_pair a b i rest (inl (omega (arith, bad)))
      | inl first ↦ elim (cases_lt (digit_or_16 b) 16) [
        | inr bad ↦ refused_pair a b i rest (inr (omega (arith, bad)))
        | inl second ↦
            subst IsErr (sym (decode_pairs-ok_pair i a b (digit_or_16 a * 16 + digit_or_16 b) rest (pair_of_digits a b i (omega (arith, first)) (omega (arith, second)))))
            (refused_rest _ _ (refuses rest (i + 2) (omega arith) (λ h. never (first, (second, h)))))
      ]
    ]

bytes_append : (xs ys : List ℕ) → length xs % 2 ≡ 0 → bytes_of (xs ++ ys) ≡ bytes_of xs ++ bytes_of ys
bytes_append [] ys even = refl
bytes_append (a ∷ []) ys even = absurd (omega arith)
bytes_append (a ∷ b ∷ rest) ys even = ap (λ l. (digit_or_16 a * 16 + digit_or_16 b) ∷ l) (bytes_append rest ys (omega arith))

bytes_front : (k : ℕ) (xs : List ℕ) → 2 * k ≤ length xs → bytes_of (take (2 * k) xs) ≡ take k (bytes_of xs)
bytes_front zero xs h = refl
bytes_front (suc k) [] h = absurd (omega arith)
bytes_front (suc k) (a ∷ []) h = absurd (omega arith)
bytes_front (suc k) (a ∷ b ∷ rest) h =
    let e : 2 * suc k ≡ suc (suc (2 * k)) = omega arith in
    ap (λ n. bytes_of (take n (a ∷ b ∷ rest))) e ∙ ap (λ l. (digit_or_16 a * 16 + digit_or_16 b) ∷ l) (bytes_front k rest (omega arith))

-- what is known once m bytes are read
abbrev pub AreBytes : List ℕ → List ℕ → ℕ → Type 0
AreBytes text out m = AreDigits (take (2 * m) text) × (take m out ≡ bytes_of (take (2 * m) text))

-- sixteen bytes more are read, which may begin in those before them
pub next_bytes : (text out more bytes : List ℕ) (m at : ℕ) → 2 * m ≤ length text → at ≤ m → AreBytes text out m
    → AreDigits (take 32 (drop (2 * at) text)) → bytes ≡ bytes_of (take 32 (drop (2 * at) text)) → take (at + 16) more ≡ take at out ++ bytes
    → AreBytes text more (at + 16)
next_bytes text out more bytes m at fits within before digits is put =
    let front : take (2 * at) (take (2 * m) text) ≡ take (2 * at) text = take-take (2 * at) (2 * m) text (omega arith) in
    let twice : 2 * (at + 16) ≡ 2 * at + 32 = omega arith in
    let cut : take (2 * (at + 16)) text ≡ take (2 * at) text ++ take 32 (drop (2 * at) text) = ap (λ n. take n text) twice ∙ take-add (2 * at) 32 text in
    let long : length (take (2 * m) text) ≡ 2 * m = length-take-le (2 * m) text fits in
    let earlier : AreDigits (take (2 * at) text) = subst AreDigits front (Each1-chunk (λ c. digit_or_16 c < 16) 0 (2 * at) (take (2 * m) text) before.0) in
    let old : take at out ≡ bytes_of (take (2 * at) text) =
    sym (take-take at m out within) ∙ ap (take at) before.1 ∙ sym (bytes_front at (take (2 * m) text) (omega (arith, long))) ∙ ap bytes_of front in
    let even : length (take (2 * at) text) % 2 ≡ 0 = omega (arith, length-take-le (2 * at) text (omega arith)) in (
      subst AreDigits (sym cut) ((are_digits_append (take (2 * at) text) (take 32 (drop (2 * at) text))).1 (earlier, digits)),
      put ∙ (λ j. old j ++ is j) ∙ sym (bytes_append (take (2 * at) text) (take 32 (drop (2 * at) text)) even) ∙ ap bytes_of (sym cut),
    )
