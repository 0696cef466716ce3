-- What a forwarder reads in a `txpk`.
use Rattle.std.proofs.Common.{[], ◌∷◌, ◌++◌, get_or, ◌≡◌, ℕ, zero, suc, ◌*◌, ◌%◌, ◌^◌, ◌<◌, ◌≤◌, Bool, true, false, ◌&&◌, T, pos, List, length, Option, Some, None, Result, Ok, Err, refl, sym, ap, ap₂, subst, ◌∙◌, arith, nat_lt, nat_le, eqb, inl, inr, option_map}
use Rattle.std.specs.Prelude.{codes, ◌==◌, if◌then◌else◌, unwrap_or}
use Rattle.std.specs.Option.{ok_or, option_map_or}
use Rattle.std.specs.Result.{result_ok}
use Rattle.std.specs.Float.{Float, binary64, fin, nan, inf, float_is_finite}
use Rattle.std.proofs.lemmas.Bool.Decides.{nat_tests}
use Rattle.std.proofs.lemmas.Bool.{cases_Bool, eqb-true}
use Rattle.std.proofs.Math.Dec.{eqb_refl}
use lib.Ieee.{div, of_int, up, down}
use lib.Ieee.Back.{round_whole}
use lib.Ieee.Exact.{HasValue}
use lib.Ieee.Fits.{down_pos}
use lib.Ieee.Positive.{positive, positive_of_value}
use lib.Ieee.Scale.{round_same}
use native.Mathlib.Nat.{mul-pos, mul_assoc, mul_comm}
use Rattle.base64.specs.declared.decode.DecodeError.{DecodeError}
use Rattle.base64.specs.Engines.{standard_pad_indifferent}
use Rattle.base64.specs.GeneralPurpose.{IsBytes, decode_of}
use Rattle.base64.proofs.EngineFacts.{decode_of-encode_of}
use Rattle.serde_json.specs.Data.{Data, number, float, null, object, member, no_members, depth}
use Rattle.serde_json.specs.Find.{of_float}
use Rattle.serde_json.specs.Read.{max_depth}
use Rattle.ns_types.specs.declared.heard.Target.{Target}
use Rattle.ns_types.specs.Results as results
use Rattle.ns_forwarder.specs.declared.fault.ForwarderFault.{ForwarderFault}
use Rattle.ns_forwarder.specs.declared.fault.ForwarderFault.TheVariants.{Field, Outside}
use Rattle.ns_roster.specs.Field.{is_missing, text_at, whole_at}
use Rattle.ns_forwarder.specs.Rxpk.{lora_rate, is_size_of, frame_from, frame_of}
use Rattle.ns_forwarder.specs.Txpk.{rate_name, megahertz, base64, lora, fsk, txpk, request, SaysToSend}
use Rattle.ns_forwarder.proofs.HertzLemmas.{million, factor, near, near-positive, hertz-number}

-- ---- the frequency

-- the quotient of a whole number and a million
divided : (y : Float) (n : ℕ) → T (positive y) → HasValue y false n 1 → div binary64 y factor ≡ near n
unfolding div
divided nan n p h = absurd p
divided (inf s) n p h = absurd p
divided (fin true m e) n p h = absurd p
divided (fin false m e) n p h =
    round_same binary64 false (m * up e * 1) (1000000 * down e) n 1000000 (mul-pos (omega arith) (down_pos e)) (omega arith)
    (ap (λ (x : ℕ). x * 1000000) h.1 ∙ mul_assoc n (down e) 1000000 ∙ ap (λ (x : ℕ). n * x) (mul_comm (down e) 1000000))

whole : (n : ℕ) → n ≤ 870000000 → HasValue (of_int binary64 (pos n)) false n 1
unfolding of_int
whole n most = round_whole binary64 false n (omega (arith, most))

pub megahertz-near : (n : ℕ) → 863000000 ≤ n → n ≤ 870000000 → megahertz n ≡ near n
megahertz-near n least most =
    let y = of_int binary64 (pos n) in
    ap (λ (m : Float). div binary64 y m) million
    ∙ divided y n (positive_of_value y n 1 (whole n most) (omega (arith, least))) (whole n most)

positive-finite : (x : Float) → T (positive x) → float_is_finite x ≡ true
unfolding float_is_finite
positive-finite nan p = absurd p
positive-finite (inf s) p = absurd p
positive-finite (fin s m e) p = refl

-- the JSON number of a frequency
pub frequency-value : (n : ℕ) → 863000000 ≤ n → n ≤ 870000000 → unwrap_or (option_map number (of_float (megahertz n))) null ≡ number (float (megahertz n))
frequency-value n least most =
    let finite : float_is_finite (megahertz n) ≡ true = rw (megahertz-near n least most) (positive-finite (near n) (near-positive n least most)) in
    ap (λ (b : Bool). unwrap_or (option_map number (if b then Some (float (megahertz n)) else None)) null) finite

-- ---- the other fields

-- the data rate of its name
rate-back : (dr : ℕ) → dr < 7 → lora_rate (rate_name dr) ≡ Some dr
rate-back zero h = refl
rate-back (suc zero) h = refl
rate-back (suc (suc zero)) h = refl
rate-back (suc (suc (suc zero))) h = refl
rate-back (suc (suc (suc (suc zero)))) h = refl
rate-back (suc (suc (suc (suc (suc zero))))) h = refl
rate-back (suc (suc (suc (suc (suc (suc zero)))))) h = refl
rate-back (suc (suc (suc (suc (suc (suc (suc n))))))) h = absurd (omega (arith, h))

low_bits : (n : ℕ) → nat_lt (n % 2 ^ 32) (2 ^ 32) ≡ true
low_bits n = grind (arith, nat_tests)

itself : (n : ℕ) → eqb n n ≡ true
itself n = step (eqb n n) (eqb_refl n)
  where
    step : (b : Bool) → T b → b ≡ true
    step true t = refl
    step false t = absurd t

short : (n : ℕ) → n ≤ 255 → nat_le n 255 ≡ true
short n h = grind (arith, nat_tests)

-- the frame of its base64
frame-back : (d : Data) (frame : List ℕ) → text_at (codes "data") d ≡ Some (base64 frame) → whole_at (codes "size") d ≡ Some (length frame) → length frame ≤ 255 → IsBytes frame
    → frame_of d ≡ Ok frame
frame-back d frame text size len bytes =
    let decoded : decode_of standard_pad_indifferent (base64 frame) ≡ Ok frame = decode_of-encode_of standard_pad_indifferent frame tt bytes in
    let sized : is_size_of (length frame) d ≡ true
    = ap (λ (o : Option ℕ). option_map_or (λ s. s == length frame) o (is_missing (codes "size") d)) size ∙ itself (length frame) in
    ap (λ (o : Option (List ℕ)). results.◌>>=◌ (ok_or o Field) (λ t. results.◌>>=◌ (ok_or (result_ok (decode_of standard_pad_indifferent t)) Field) (λ f. frame_from f d))) text
    ∙ ap (λ (r : Result (List ℕ) DecodeError). results.◌>>=◌ (ok_or (result_ok r) Field) (λ f. frame_from f d)) decoded
    ∙ ap₂ (λ (a b : Bool). if a && b then Ok frame else Err Field) (short (length frame) len) sized

-- ---- the whole

-- what the frame and its target must be
pub record IsSendable (t : Target) (frame : List ℕ) : Type 0 where
  pub lowest : 863000000 ≤ t.freq
  pub highest : t.freq ≤ 870000000
  pub dr : t.dr ≤ 7
  pub len : length frame ≤ 255
  pub bytes : IsBytes frame

counter-back : (t : Target) → (if nat_lt (t.moment % 2 ^ 32) (2 ^ 32) then Some (t.moment % 2 ^ 32) else None) ≡ Some (t.moment % 2 ^ 32)
counter-back t = ap (λ (b : Bool). if b then Some (t.moment % 2 ^ 32) else None) (low_bits t.moment)

says-lora : (t : Target) (power : ℕ) (frame : List ℕ) → IsSendable t frame → t.dr < 7 → SaysToSend (lora t power frame) t frame
says-lora t power frame s slow = record {
  counter = counter-back t;
  freq = hertz-number (lora t power frame) (float (megahertz t.freq)) t.freq refl (megahertz-near t.freq s.lowest s.highest) s.lowest s.highest;
  dr = ap (λ (o : Option ℕ). ok_or o Outside) (rate-back t.dr slow);
  size = refl;
  payload = frame-back (lora t power frame) frame refl refl s.len s.bytes;
}

says-fsk : (t : Target) (power : ℕ) (frame : List ℕ) → IsSendable t frame → t.dr ≡ 7 → SaysToSend (fsk t power frame) t frame
says-fsk t power frame s fast = record {
  counter = counter-back t;
  freq = hertz-number (fsk t power frame) (float (megahertz t.freq)) t.freq refl (megahertz-near t.freq s.lowest s.highest) s.lowest s.highest;
  dr = ap rate (sym fast);
  size = refl;
  payload = frame-back (fsk t power frame) frame refl refl s.len s.bytes;
}
  where
    rate : ℕ → Result ℕ ForwarderFault
    rate dr = Ok dr

-- a `txpk` is read to what was meant
pub says : (t : Target) (power : ℕ) (frame : List ℕ) → IsSendable t frame → SaysToSend (txpk t power frame) t frame
says t power frame s = elim (cases_Bool (eqb t.dr 7)) [
  | inl e ↦ subst (λ (d : Data). SaysToSend d t frame) (sym (ap (λ (b : Bool). if b then fsk t power frame else lora t power frame) e)) (says-fsk t power frame s (eqb-true t.dr 7 e))
  | inr e ↦ subst (λ (d : Data). SaysToSend d t frame) (sym (ap (λ (b : Bool). if b then fsk t power frame else lora t power frame) e)) (says-lora t power frame s (below t.dr s.dr e))
]
  where
    below : (dr : ℕ) → dr ≤ 7 → eqb dr 7 ≡ false → dr < 7
    below dr h e = grind (arith, nat_tests)

-- ---- the body

pub depth-request : (t : Target) (power : ℕ) (frame : List ℕ) → depth (request t power frame) ≤ max_depth
depth-request t power frame = step (eqb t.dr 7)
  where
    step : (b : Bool) → depth (object (member (codes "txpk") (if b then fsk t power frame else lora t power frame) no_members)) ≤ max_depth
    step true = omega arith
    step false = omega arith

-- a token by its two bytes
pub token-is : (token : List ℕ) → length token ≡ 2 → (version : ℕ) (rest : List ℕ) → version ∷ get_or token 0 0 ∷ get_or token 1 0 ∷ rest ≡ version ∷ token ++ rest
token-is [] h version rest = absurd (omega (arith, h))
token-is (a ∷ []) h version rest = absurd (omega (arith, h))
token-is (a ∷ b ∷ []) h version rest = refl
token-is (a ∷ b ∷ c ∷ more) h version rest = absurd (omega (arith, h))
