-- A reader of JSON finds in the text of an uplink its value.
use Rattle.std.proofs.Common.{◌≡◌, ℕ, ◌==◌, Bool, true, false, cond, List, [], ◌∷◌, ◌++◌, flat_map, Option, None, Some, refl, ap, sym, ◌∙◌, append_assoc}
use Rattle.std.specs.Prelude.{codes, decimal}
use Rattle.json.specs.Token.{Token}
use Rattle.json.specs.Json.{Json, Members, member, number, string, document}
use Rattle.json.specs.Print.{print, print_from, token_text, escape_byte}
use Rattle.json.specs.Tree.{json_tokens, items_tokens, members_tokens}
use Rattle.json.proofs.Printed.Trees.{document-print}
use Rattle.ns_types.specs.declared.heard.Heard.{Heard}
use Rattle.ns_calls.specs.declared.answer.Uplink.{Uplink}
use Rattle.ns_lines.specs.Text.{wide, address_text}
use Rattle.ns_events.specs.declared.lora.Lora.{Lora}
use Rattle.ns_output.specs.declared.times.Times.{Times}
use Rattle.ns_events.specs.Lora.{lora_of}
use Rattle.hex.specs.Hex.{encode_lower}
use Rattle.ns_events.specs.Base64.{base64_text}
use Rattle.ns_events.specs.Times.{utc_text}
use Rattle.ns_events.specs.Uplink.{adr_bit, adr_ack_req_bit, ack_bit, class_b_bit, is_sealed, tenths_text, flag_text, times_text, frame_text, port_text, control_text, options_text, payload_text, rate_text, rate_text_as, heard_text, signal_text, copy_text, copies_text, front_text, uplink_json}
use Rattle.ns_events.specs.Value.{with_rate, with_rate_as, with_port, with_times, copy_members, heard_members, signal_members, copy_values, bit_members, option_members, payload_members, rx_members, control_members, frame_members, uplink_members, uplink_value, UplinkFits}
use Rattle.ns_events.proofs.Plain.{hex-escape, base64-escape, utc-escape, wide-escape, address-escape}
use Rattle.ns_events.proofs.Numbers.{value_numbers, value_depth}

-- what is printed of members behind another, and of what follows the object
abbrev behind : Members → List Token → List ℕ
behind ms ts = print_from true (members_tokens ms ++ ts)

flag-print : (b : Bool) → token_text (Token.boolean b) ≡ flag_text b
flag-print true = refl
flag-print false = refl

rate-print : (dr : ℕ) (ms : Members) (ts : List Token) → behind (with_rate dr ms) ts ≡ rate_text dr ++ behind ms ts
unfolding rate_text print_from escape_byte
rate-print dr ms ts = lora (lora_of dr)
  where
    fsk : (b : Bool) → behind (cond b (with_rate_as None 7 ms) ms) ts ≡ cond b (codes ",\"bitRate\":50000") [] ++ behind ms ts
    fsk true = refl
    fsk false = refl

    lora : (o : Option Lora) → behind (with_rate_as o dr ms) ts ≡ rate_text_as o dr ++ behind ms ts
    lora (Some rate) = simp append_assoc
    lora None = fsk (dr == 7)

-- pieces one after the other
nest4 : (a b c d rest : List ℕ) → (a ++ b ++ c ++ d) ++ rest ≡ a ++ (b ++ (c ++ (d ++ rest)))
nest4 a b c d rest = simp append_assoc

nest5 : (a b c d e rest : List ℕ) → (a ++ b ++ c ++ d ++ e) ++ rest ≡ a ++ (b ++ (c ++ (d ++ (e ++ rest))))
nest5 a b c d e rest = simp append_assoc

nest8 : (a b c d e f g h rest : List ℕ) → (a ++ b ++ c ++ d ++ e ++ f ++ g ++ h) ++ rest ≡ a ++ (b ++ (c ++ (d ++ (e ++ (f ++ (g ++ (h ++ rest)))))))
nest8 a b c d e f g h rest = simp append_assoc

nest10 : (a b c d e f g h i j rest : List ℕ) → (a ++ b ++ c ++ d ++ e ++ f ++ g ++ h ++ i ++ j) ++ rest ≡ a ++ (b ++ (c ++ (d ++ (e ++ (f ++ (g ++ (h ++ (i ++ (j ++ rest)))))))))
nest10 a b c d e f g h i j rest = simp append_assoc

signal-print : (h : Heard) (ts : List Token)
    → print_from true (members_tokens (signal_members h) ++ ts) ≡ codes ",\"rssi\":" ++ (tenths_text h.rssi ++ (codes ",\"snr\":" ++ (tenths_text h.snr ++ (codes "}" ++ (print_from true ts)))))
unfolding print_from escape_byte
signal-print h ts = refl

heard-print : (h : Heard) (ms : Members) (ts : List Token)
    → 123 ∷ print_from false (members_tokens (heard_members h ms) ++ ts) ≡ codes "{\"gatewayId\":\"" ++ (wide h.gateway.0 ++ (codes "\",\"moment\":" ++ (decimal h.moment ++ (codes ",\"frequency\":" ++ (decimal h.freq ++ (codes ",\"dr\":" ++ (decimal h.dr ++ (print_from true (members_tokens ms ++ ts)))))))))
unfolding print_from escape_byte
heard-print h ms ts = simp (append_assoc, wide-escape)

copy-print : (h : Heard) (ts : List Token) → 123 ∷ print_from false (members_tokens (copy_members h) ++ ts) ≡ copy_text h ++ print_from true ts
unfolding copy_text heard_text signal_text
copy-print h ts =
    let rest = print_from true ts in
    heard-print h (with_rate h.dr (signal_members h)) ts
    ∙ sym (nest8 (codes "{\"gatewayId\":\"") (wide h.gateway.0) (codes "\",\"moment\":") (decimal h.moment) (codes ",\"frequency\":") (decimal h.freq) (codes ",\"dr\":") (decimal h.dr) (print_from true (members_tokens (with_rate h.dr (signal_members h)) ++ ts)))
    ∙ ap (λ l. heard_text h ++ l) (rate-print h.dr (signal_members h) ts
    ∙ ap (λ l. rate_text h.dr ++ l) (signal-print h ts ∙ sym (nest5 (codes ",\"rssi\":") (tenths_text h.rssi) (codes ",\"snr\":") (tenths_text h.snr) (codes "}") rest)))
    ∙ sym (append_assoc (heard_text h) (rate_text h.dr) (signal_text h ++ rest)) ∙ sym (append_assoc (heard_text h ++ rate_text h.dr) (signal_text h) rest)

more-print : (hs : List Heard) (ts : List Token)
    → print_from true (items_tokens (copy_values hs) ++ ts) ≡ flat_map (λ (c : Heard). codes "," ++ copy_text c) hs ++ (codes "]" ++ print_from true ts)
unfolding print_from
more-print [] ts = refl
more-print (h ∷ hs) ts =
    ap (print_from true) (ap (λ l. Token.begin_object ∷ l) (append_assoc (members_tokens (copy_members h)) (items_tokens (copy_values hs)) ts))
    ∙ ap (λ l. 44 ∷ l) (copy-print h (items_tokens (copy_values hs) ++ ts) ∙ ap (λ l. copy_text h ++ l) (more-print hs ts) ∙ sym (append_assoc (copy_text h) _ _))

copies-print : (hs : List Heard) (ts : List Token) → print_from false (items_tokens (copy_values hs) ++ ts) ≡ copies_text hs ++ (codes "]" ++ print_from true ts)
unfolding print_from copies_text
copies-print [] ts = refl
copies-print (h ∷ hs) ts =
    ap (print_from false) (ap (λ l. Token.begin_object ∷ l) (append_assoc (members_tokens (copy_members h)) (items_tokens (copy_values hs)) ts))
    ∙ copy-print h (items_tokens (copy_values hs) ++ ts) ∙ ap (λ l. copy_text h ++ l) (more-print hs ts) ∙ sym (append_assoc (copy_text h) _ _)

bits-print : (u : Uplink) (ms : Members)
    → print_from true (members_tokens (bit_members u ms)) ≡ codes ",\"confirmed\":" ++ (flag_text u.confirmed ++ (codes ",\"adr\":" ++ (flag_text (adr_bit u.fctrl) ++ (codes ",\"adrAckReq\":" ++ (flag_text (adr_ack_req_bit u.fctrl) ++ (codes ",\"ack\":" ++ (flag_text (ack_bit u.fctrl) ++ (codes ",\"classB\":" ++ (flag_text (class_b_bit u.fctrl) ++ (print_from true (members_tokens ms)))))))))))
unfolding print_from escape_byte
bits-print u ms = simp flag-print

options-print : (u : Uplink) (ms : Members) → UplinkFits u
    → print_from true (members_tokens (option_members u ms)) ≡ codes ",\"fOpts\":\"" ++ (encode_lower u.fopts ++ (codes "\",\"sealed\":" ++ (flag_text (is_sealed u) ++ (print_from true (members_tokens ms)))))
unfolding print_from escape_byte
options-print u ms fits = let same = hex-escape u.fopts fits.fopts in simp (append_assoc, flag-print, same)

payload-print : (u : Uplink) (ms : Members) → UplinkFits u
    → print_from true (members_tokens (payload_members u ms)) ≡ codes ",\"payload\":\"" ++ (encode_lower u.payload ++ (codes "\",\"data\":\"" ++ (base64_text u.payload ++ (codes "\"" ++ (print_from true (members_tokens ms))))))
unfolding print_from escape_byte
payload-print u ms fits =
    let hex = hex-escape u.payload fits.payload in
    let base64 = base64-escape u.payload fits.payload in
    simp (append_assoc, hex, base64)

rx-print : (u : Uplink) → print_from true (members_tokens (rx_members u)) ≡ codes ",\"rxInfo\":[" ++ (copies_text u.copies.items ++ codes "]}")
unfolding print_from escape_byte
rx-print u = ap (λ l. codes ",\"rxInfo\":[" ++ l) (copies-print u.copies.items (Token.end_object ∷ []))

-- the members behind the port
control-print : (u : Uplink) → UplinkFits u
    → print_from true (members_tokens (control_members u)) ≡ control_text u.confirmed u.fctrl ++ (options_text u ++ (payload_text u.payload ++ (codes ",\"rxInfo\":[" ++ (copies_text u.copies.items ++ codes "]}"))))
unfolding control_text options_text payload_text
control-print u fits =
    bits-print u (option_members u (payload_members u (rx_members u)))
    ∙ sym (nest10 (codes ",\"confirmed\":") (flag_text u.confirmed) (codes ",\"adr\":") (flag_text (adr_bit u.fctrl)) (codes ",\"adrAckReq\":") (flag_text (adr_ack_req_bit u.fctrl)) (codes ",\"ack\":") (flag_text (ack_bit u.fctrl)) (codes ",\"classB\":") (flag_text (class_b_bit u.fctrl)) (print_from true (members_tokens (option_members u (payload_members u (rx_members u))))))
    ∙ ap (λ l. control_text u.confirmed u.fctrl ++ l) (options-print u (payload_members u (rx_members u)) fits
    ∙ sym (nest4 (codes ",\"fOpts\":\"") (encode_lower u.fopts) (codes "\",\"sealed\":") (flag_text (is_sealed u)) (print_from true (members_tokens (payload_members u (rx_members u)))))
    ∙ ap (λ l. options_text u ++ l) (payload-print u (rx_members u) fits
    ∙ sym (nest5 (codes ",\"payload\":\"") (encode_lower u.payload) (codes "\",\"data\":\"") (base64_text u.payload) (codes "\"") (print_from true (members_tokens (rx_members u))))
    ∙ ap (λ l. payload_text u.payload ++ l) (rx-print u)))

port-print : (port : Option ℕ) (ms : Members) → print_from true (members_tokens (with_port port ms)) ≡ port_text port ++ print_from true (members_tokens ms)
unfolding print_from escape_byte
port-print None ms = refl
port-print (Some port) ms = simp append_assoc

frame-flat : (u : Uplink) (ms : Members)
    → print_from false (members_tokens (frame_members u ms)) ≡ codes "\"devEui\":\"" ++ (wide u.window.eui.0 ++ (codes "\",\"devAddr\":\"" ++ (address_text u.addr.0 ++ (codes "\",\"session\":" ++ (decimal u.window.session ++ (codes ",\"fCnt\":" ++ (decimal u.window.fcnt ++ (print_from true (members_tokens ms)))))))))
unfolding print_from escape_byte
frame-flat u ms = simp (append_assoc, wide-escape, address-escape)

frame-print : (u : Uplink) (ms : Members) → print_from false (members_tokens (frame_members u ms)) ≡ frame_text u ++ print_from true (members_tokens ms)
unfolding frame_text
frame-print u ms = frame-flat u ms ∙ sym (nest8 (codes "\"devEui\":\"") (wide u.window.eui.0) (codes "\",\"devAddr\":\"") (address_text u.addr.0) (codes "\",\"session\":") (decimal u.window.session) (codes ",\"fCnt\":") (decimal u.window.fcnt) (print_from true (members_tokens ms)))

times-flat : (t : Times) (ts : List Token)
    → print_from false (Token.key (codes "time") ∷ Token.string (utc_text t.heard) ∷ Token.key (codes "writtenAt") ∷ Token.string (utc_text t.written) ∷ ts)
    ≡ codes "\"time\":\"" ++ (utc_text t.heard ++ (codes "\",\"writtenAt\":\"" ++ (utc_text t.written ++ (codes "\"" ++ print_from true ts))))
unfolding print_from escape_byte
times-flat t ts = simp (append_assoc, utc-escape)

times-print : (t : Times) (k : List ℕ) (j : Json) (ms : Members)
    → print_from false (members_tokens (with_times (Some t) (member k j ms))) ≡ times_text (Some t) ++ print_from false (members_tokens (member k j ms))
unfolding times_text print_from
times-print t k j ms =
    times-flat t (members_tokens (member k j ms))
    ∙ sym (nest5 (codes "\"time\":\"") (utc_text t.heard) (codes "\",\"writtenAt\":\"") (utc_text t.written) (codes "\",") (print_from false (members_tokens (member k j ms))))

-- the members behind DevEUI
abbrev behind_eui : Uplink → Members
behind_eui u =
    member (codes "devAddr") (string (address_text u.addr.0))
    (member (codes "session") (number (decimal u.window.session))
    (member (codes "fCnt") (number (decimal u.window.fcnt)) (with_port u.port (control_members u))))

all-print : (u : Uplink) → UplinkFits u
    → print_from false (members_tokens (uplink_members u))
    ≡ frame_text u ++ (port_text u.port ++ (control_text u.confirmed u.fctrl ++ (options_text u ++ (payload_text u.payload ++ (codes ",\"rxInfo\":[" ++ (copies_text u.copies.items ++ codes "]}"))))))
all-print u fits =
    frame-print u (with_port u.port (control_members u))
    ∙ ap (λ l. frame_text u ++ l) (port-print u.port (control_members u) ∙ ap (λ l. port_text u.port ++ l) (control-print u fits))

printed : (times : Option Times) (u : Uplink) → UplinkFits u
    → print_from false (members_tokens (with_times times (uplink_members u)))
    ≡ times_text times ++ (frame_text u ++ (port_text u.port ++ (control_text u.confirmed u.fctrl ++ (options_text u ++ (payload_text u.payload ++ (codes ",\"rxInfo\":[" ++ (copies_text u.copies.items ++ codes "]}")))))))
unfolding times_text
printed None u fits = all-print u fits
printed (Some t) u fits = times-print t (codes "devEui") (string (wide u.window.eui.0)) (behind_eui u) ∙ ap (λ l. times_text (Some t) ++ l) (all-print u fits)

text-print : (times : Option Times) (u : Uplink) → UplinkFits u → print (json_tokens (uplink_value times u)) ≡ uplink_json times u
unfolding uplink_json front_text print_from
text-print times u fits = ap (λ l. 123 ∷ l) (printed times u fits) ∙ simp append_assoc

pub read-back : (times : Option Times) (u : Uplink) → UplinkFits u → document (uplink_json times u) ≡ Some (uplink_value times u)
read-back times u fits =
    ap document (sym (text-print times u fits)) ∙ document-print (uplink_value times u) (value_numbers times u fits) (value_depth times u)
