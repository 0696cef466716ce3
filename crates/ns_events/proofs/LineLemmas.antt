-- The object of an uplink holds no line feed.
use Rattle.std.proofs.Common.{◌≡◌, ℕ, ℤ, zero, suc, ◌==◌, Bool, true, false, cond, List, [], ◌∷◌, ◌++◌, length, flat_map, replicate, Option, None, Some, refl, arith}
use Rattle.std.specs.Prelude.{codes}
use Rattle.std.proofs.lemmas.List.Folds.{list_any-append}
use Rattle.std.proofs.lemmas.Bool.Decides.{nat_tests}
use Rattle.base64.specs.Rfc4648.{encode_symbols, padding_len}
use Rattle.ns_types.specs.declared.heard.Heard.{Heard}
use Rattle.ns_calls.specs.declared.answer.Uplink.{Uplink}
use Rattle.ns_lines.specs.Text.{has_line_feed}
use Rattle.ns_lines.proofs.LineLemmas.{joined, at_any, hex-line, decimal-line, wide-line, address-line}
use Rattle.ns_events.specs.declared.lora.Lora.{Lora}
use Rattle.ns_output.specs.declared.times.Times.{Times}
use Rattle.ns_output.specs.declared.times.Utc.{Utc}
use Rattle.ns_events.specs.Base64.{symbols, base64_text}
use Rattle.ns_events.specs.Lora.{lora_of}
use Rattle.ns_events.specs.Times.{last_digit, utc_text}
use Rattle.ns_events.specs.Uplink.{flag_text, tenths_text, times_text, frame_text, port_text, control_text, options_text, payload_text, rate_text, rate_text_as, heard_text, signal_text, copy_text, copies_text, front_text, uplink_json}

flag-line : (flag : Bool) → has_line_feed (flag_text flag) ≡ false
flag-line true = refl
flag-line false = refl

symbols-line : (bytes : List ℕ) → has_line_feed (encode_symbols symbols bytes) ≡ false
unfolding encode_symbols
symbols-line [] = refl
symbols-line (a ∷ []) = simp (at_any symbols refl)
symbols-line (a ∷ b ∷ []) = simp (at_any symbols refl)
symbols-line (a ∷ b ∷ c ∷ rest) = simp (at_any symbols refl, symbols-line rest)

padding-line : (n : ℕ) → has_line_feed (replicate n 61) ≡ false
padding-line zero = refl
padding-line (suc n) = padding-line n

base64-line : (bytes : List ℕ) → has_line_feed (base64_text bytes) ≡ false
unfolding base64_text
base64-line bytes = joined (encode_symbols symbols bytes) (replicate (padding_len (length bytes)) 61) (symbols-line bytes) (padding-line (padding_len (length bytes)))

digit-line : (n : ℕ) → (last_digit n == 10) ≡ false
digit-line n = grind (arith, nat_tests)

pub utc-line : (t : Utc) → has_line_feed (utc_text t) ≡ false
unfolding utc_text
utc-line t = simp (digit-line)

sign-line : (b : Bool) → has_line_feed (cond b (codes "-") []) ≡ false
sign-line true = refl
sign-line false = refl

tenths-line : (n : ℤ) → has_line_feed (tenths_text n) ≡ false
unfolding tenths_text
tenths-line n = simp (list_any-append, decimal-line, sign-line)

times-line : (times : Option Times) → has_line_feed (times_text times) ≡ false
unfolding times_text
times-line None = refl
times-line (Some t) = simp (list_any-append, utc-line)

frame-line : (u : Uplink) → has_line_feed (frame_text u) ≡ false
unfolding frame_text
frame-line u = simp (list_any-append, wide-line, address-line, decimal-line)

port-line : (port : Option ℕ) → has_line_feed (port_text port) ≡ false
port-line None = refl
port-line (Some port) = simp (list_any-append, decimal-line)

control-line : (confirmed : Bool) (fctrl : ℕ) → has_line_feed (control_text confirmed fctrl) ≡ false
unfolding control_text
control-line confirmed fctrl = simp (list_any-append, flag-line)

options-line : (u : Uplink) → has_line_feed (options_text u) ≡ false
unfolding options_text
options-line u = simp (list_any-append, hex-line, flag-line)

payload-line : (payload : List ℕ) → has_line_feed (payload_text payload) ≡ false
unfolding payload_text
payload-line payload = simp (list_any-append, hex-line, base64-line)

front-line : (times : Option Times) (u : Uplink) → has_line_feed (front_text times u) ≡ false
unfolding front_text
front-line times u = simp (list_any-append, times-line, frame-line, port-line, control-line, options-line, payload-line)

rate-line : (dr : ℕ) → has_line_feed (rate_text dr) ≡ false
unfolding rate_text
rate-line dr = by (lora_of dr)
  where
    fsk : (b : Bool) → has_line_feed (cond b (codes ",\"bitRate\":50000") []) ≡ false
    fsk true = refl
    fsk false = refl

    by : (o : Option Lora) → has_line_feed (rate_text_as o dr) ≡ false
    by (Some lora) = simp (list_any-append, decimal-line)
    by None = fsk (dr == 7)

heard-line : (h : Heard) → has_line_feed (heard_text h) ≡ false
unfolding heard_text
heard-line h = simp (list_any-append, wide-line, decimal-line)

signal-line : (h : Heard) → has_line_feed (signal_text h) ≡ false
unfolding signal_text
signal-line h = simp (list_any-append, tenths-line)

copy-line : (h : Heard) → has_line_feed (copy_text h) ≡ false
unfolding copy_text
copy-line h = simp (list_any-append, heard-line, rate-line, signal-line)

more-line : (hs : List Heard) → has_line_feed (flat_map (λ (c : Heard). codes "," ++ copy_text c) hs) ≡ false
more-line [] = refl
more-line (h ∷ hs) = joined (codes "," ++ copy_text h) (flat_map (λ (c : Heard). codes "," ++ copy_text c) hs) (copy-line h) (more-line hs)

copies-line : (hs : List Heard) → has_line_feed (copies_text hs) ≡ false
unfolding copies_text
copies-line [] = refl
copies-line (h ∷ hs) = joined (copy_text h) (flat_map (λ (c : Heard). codes "," ++ copy_text c) hs) (copy-line h) (more-line hs)

pub json-line : (times : Option Times) (u : Uplink) → has_line_feed (uplink_json times u) ≡ false
unfolding uplink_json
json-line times u = simp (list_any-append, front-line, copies-line)
