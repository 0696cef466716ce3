-- Texts that stand in a string of JSON as they are.
use Rattle.std.proofs.Common.{◌≡◌, ℕ, zero, suc, ◌+◌, ◌/◌, ◌%◌, ◌*◌, ◌<◌, ◌≤◌, Bool, true, false, ◌&&◌, List, [], ◌∷◌, ◌++◌, length, get_or, replicate, refl, ap, ◌∙◌, subst, arith}
use Rattle.std.specs.List.{list_all, AllByRecursion}
use Rattle.std.specs.Int.{w32, w64, to_be_bytes}
use Rattle.std.proofs.lemmas.List.Folds.{list_all-append}
use Rattle.std.proofs.lemmas.Bool.Decides.{nat_tests}
use Rattle.hex.specs.Hex.{encode_with, encode_lower, lower_digits}
use Rattle.base64.specs.Rfc4648.{encode_symbols, padding_len}
use Rattle.json.specs.Print.{escape}
use Rattle.json.specs.Run.{is_plain}
use Rattle.json.proofs.Printed.Strings.{escape_byte_plain}
use Rattle.ns_lines.specs.Text.{wide, address_text}
use Rattle.ns_output.specs.declared.times.Utc.{Utc}
use Rattle.ns_events.specs.Base64.{symbols, base64_text}
use Rattle.ns_events.specs.Times.{last_digit, utc_text}
use Rattle.ns_events.specs.Value.{IsByte}

abbrev clean : List ℕ → Bool
clean = list_all is_plain

both : (a b : Bool) → (a && b) ≡ true → (a ≡ true) × (b ≡ true)
both true true h = (refl, refl)
both true false h = absurd (cc h)
both false b h = absurd (cc h)

not_at : (x k : ℕ) → is_plain x ≡ true → is_plain k ≡ false → x ≡ k → ⊥
not_at x k plain stop is =
    let P : ℕ → Type 0 = λ n. is_plain n ≡ true in
    let at : is_plain k ≡ true = subst P is plain in
    cc

low : (x : ℕ) → is_plain x ≡ true → 32 ≤ x
low x plain = grind (arith, nat_tests)

escape-clean : (s : List ℕ) → clean s ≡ true → escape s ≡ s
escape-clean [] all = refl
escape-clean (x ∷ xs) all =
    let (here, rest) = both (is_plain x) (clean xs) all in
    ap (λ l. l ++ escape xs) (escape_byte_plain x (not_at x 34 here refl) (not_at x 92 here refl) (low x here)) ∙ ap (λ l. x ∷ l) (escape-clean xs rest)

at_clean : (t : List ℕ) → clean t ≡ true → (i : ℕ) → i < length t → is_plain (get_or t i 0) ≡ true
at_clean [] all i within = absurd (omega arith)
at_clean (x ∷ xs) all zero within = (both (is_plain x) (clean xs) all).0
at_clean (x ∷ xs) all (suc i) within = at_clean xs (both (is_plain x) (clean xs) all).1 i (omega arith)

all_clean : (a b : Bool) → a ≡ true → b ≡ true → (a && b) ≡ true
all_clean a b is_a is_b = rw (is_a, is_b) refl

digit_of : (n : ℕ) → n < 16 → is_plain (get_or lower_digits n 0) ≡ true
digit_of n within = at_clean lower_digits refl n within

hex-clean : (bs : List ℕ) → AllByRecursion IsByte bs → clean (encode_lower bs) ≡ true
unfolding encode_with
hex-clean [] bytes = refl
hex-clean (b ∷ bs) bytes =
    all_clean _ _ (digit_of (b / 16) (omega (arith, bytes.0))) (all_clean _ _ (digit_of (b % 16) (omega arith)) (hex-clean bs bytes.1))

symbol_of : (n : ℕ) → n < 64 → is_plain (get_or symbols n 0) ≡ true
symbol_of n within = at_clean symbols refl n within

symbols-clean : (bs : List ℕ) → AllByRecursion IsByte bs → clean (encode_symbols symbols bs) ≡ true
unfolding encode_symbols
symbols-clean [] bytes = refl
symbols-clean (a ∷ []) bytes = all_clean _ _ (symbol_of (a / 4) (omega (arith, bytes.0))) (all_clean _ _ (symbol_of (a % 4 * 16) (omega arith)) refl)
symbols-clean (a ∷ b ∷ []) bytes =
    all_clean _ _ (symbol_of (a / 4) (omega (arith, bytes.0)))
    (all_clean _ _ (symbol_of (a % 4 * 16 + b / 16) (omega (arith, bytes.1.0))) (all_clean _ _ (symbol_of (b % 16 * 4) (omega arith)) refl))
symbols-clean (a ∷ b ∷ c ∷ rest) bytes =
    all_clean _ _ (symbol_of (a / 4) (omega (arith, bytes.0)))
    (all_clean _ _ (symbol_of (a % 4 * 16 + b / 16) (omega (arith, bytes.1.0)))
    (all_clean _ _ (symbol_of (b % 16 * 4 + c / 64) (omega (arith, bytes.1.1.0)))
    (all_clean _ _ (symbol_of (c % 64) (omega arith)) (symbols-clean rest bytes.1.1.1))))

padding-clean : (n : ℕ) → clean (replicate n 61) ≡ true
padding-clean zero = refl
padding-clean (suc n) = padding-clean n

base64-clean : (bs : List ℕ) → AllByRecursion IsByte bs → clean (base64_text bs) ≡ true
unfolding base64_text
base64-clean bs bytes =
    list_all-append is_plain (encode_symbols symbols bs) (replicate (padding_len (length bs)) 61)
    ∙ all_clean _ _ (symbols-clean bs bytes) (padding-clean (padding_len (length bs)))

digit-clean : (n : ℕ) → is_plain (last_digit n) ≡ true
digit-clean n = grind (arith, nat_tests)

utc-clean : (t : Utc) → clean (utc_text t) ≡ true
unfolding utc_text
utc-clean t = simp digit-clean

wide-bytes : (n : ℕ) → AllByRecursion IsByte (to_be_bytes w64 n)
wide-bytes n = (omega arith, (omega arith, (omega arith, (omega arith, (omega arith, (omega arith, (omega arith, (omega arith, tt))))))))

address-bytes : (n : ℕ) → AllByRecursion IsByte (to_be_bytes w32 n)
address-bytes n = (omega arith, (omega arith, (omega arith, (omega arith, tt))))

-- ---- the strings of an uplink

pub hex-escape : (bs : List ℕ) → AllByRecursion IsByte bs → escape (encode_lower bs) ≡ encode_lower bs
hex-escape bs bytes = escape-clean (encode_lower bs) (hex-clean bs bytes)

pub base64-escape : (bs : List ℕ) → AllByRecursion IsByte bs → escape (base64_text bs) ≡ base64_text bs
base64-escape bs bytes = escape-clean (base64_text bs) (base64-clean bs bytes)

pub utc-escape : (t : Utc) → escape (utc_text t) ≡ utc_text t
utc-escape t = escape-clean (utc_text t) (utc-clean t)

pub wide-escape : (n : ℕ) → escape (wide n) ≡ wide n
unfolding wide
wide-escape n = hex-escape (to_be_bytes w64 n) (wide-bytes n)

pub address-escape : (n : ℕ) → escape (address_text n) ≡ address_text n
unfolding address_text
address-escape n = hex-escape (to_be_bytes w32 n) (address-bytes n)
