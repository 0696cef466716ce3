-- The objects of joins and acknowledgements hold no line feed, and a reader of JSON finds in them their values.
use Rattle.std.proofs.Common.{◌≡◌, ℕ, ◌<◌, ◌^◌, false, true, List, ◌++◌, Option, None, Some, refl, ap, sym, ◌∙◌, append_assoc, arith}
use Rattle.std.specs.Prelude.{codes, decimal}
use Rattle.std.proofs.lemmas.List.Folds.{list_any-append}
use Rattle.json.specs.Json.{Members, no_members, document}
use Rattle.json.specs.Print.{print, print_from, escape_byte}
use Rattle.json.specs.Tree.{json_tokens, members_tokens, MembersHaveNumbers, members_depth}
use Rattle.json.proofs.Printed.Decimals.{IsNumber-decimal}
use Rattle.json.proofs.Printed.Trees.{document-print}
use Rattle.ns_types.specs.declared.identity.WindowName.{WindowName}
use Rattle.ns_lines.specs.Text.{wide, has_line_feed}
use Rattle.ns_lines.proofs.LineLemmas.{decimal-line, wide-line, address-line}
use Rattle.ns_output.specs.declared.times.Utc.{Utc}
use Rattle.ns_events.specs.Notice.{time_text, session_text, join_json, ack_json, with_time, session_members, ack_members, join_value, ack_value, NameFits}
use Rattle.ns_events.proofs.LineLemmas.{utc-line}
use Rattle.ns_events.proofs.Plain.{utc-escape, wide-escape, address-escape}

time-line : (time : Option Utc) → has_line_feed (time_text time) ≡ false
unfolding time_text
time-line None = refl
time-line (Some t) = simp (list_any-append, utc-line)

session-line : (eui addr session : ℕ) → has_line_feed (session_text eui addr session) ≡ false
unfolding session_text
session-line eui addr session = simp (list_any-append, wide-line, address-line, decimal-line)

pub join-line : (time : Option Utc) (eui addr session : ℕ) → has_line_feed (join_json time eui addr session) ≡ false
unfolding join_json
join-line time eui addr session = simp (list_any-append, time-line, session-line)

pub ack-line : (time : Option Utc) (w : WindowName) (addr gateway : ℕ) → has_line_feed (ack_json time w addr gateway) ≡ false
unfolding ack_json
ack-line time w addr gateway = simp (list_any-append, time-line, session-line, decimal-line, wide-line)

-- ---- what is printed of the values

time-print : (time : Option Utc) (ms : Members) → print_from true (members_tokens (with_time time ms)) ≡ time_text time ++ print_from true (members_tokens ms)
unfolding time_text print_from escape_byte
time-print None ms = refl
time-print (Some t) ms = simp (append_assoc, utc-escape)

session-print : (eui addr session : ℕ) (ms : Members)
    → print_from true (members_tokens (session_members eui addr session ms)) ≡ session_text eui addr session ++ print_from true (members_tokens ms)
unfolding session_text print_from escape_byte
session-print eui addr session ms = simp (append_assoc, wide-escape, address-escape)

ack-print : (w : WindowName) (gateway : ℕ)
    → print_from true (members_tokens (ack_members w gateway)) ≡ codes ",\"fCnt\":" ++ decimal w.fcnt ++ codes ",\"gatewayId\":\"" ++ wide gateway ++ codes "\"}"
unfolding print_from escape_byte
ack-print w gateway = simp (append_assoc, wide-escape)

nest4 : (a b c d : List ℕ) → a ++ (b ++ (c ++ d)) ≡ a ++ b ++ c ++ d
nest4 a b c d = simp append_assoc

nest8 : (a b c d e f g h : List ℕ) → a ++ (b ++ (c ++ (d ++ e ++ f ++ g ++ h))) ≡ a ++ b ++ c ++ d ++ e ++ f ++ g ++ h
nest8 a b c d e f g h = simp append_assoc

joins-print : (time : Option Utc) (eui addr session : ℕ) → print (json_tokens (join_value time eui addr session)) ≡ join_json time eui addr session
unfolding join_json print_from escape_byte
joins-print time eui addr session =
    ap (λ l. codes "{\"event\":\"join\"" ++ l)
    (time-print time (session_members eui addr session no_members) ∙ ap (λ l. time_text time ++ l) (session-print eui addr session no_members))
    ∙ nest4 (codes "{\"event\":\"join\"") (time_text time) (session_text eui addr session) (codes "}")

acks-print : (time : Option Utc) (w : WindowName) (addr gateway : ℕ) → print (json_tokens (ack_value time w addr gateway)) ≡ ack_json time w addr gateway
unfolding ack_json print_from escape_byte
acks-print time w addr gateway =
    ap (λ l. codes "{\"event\":\"ack\"" ++ l)
    (time-print time (session_members w.eui.0 addr w.session (ack_members w gateway))
    ∙ ap (λ l. time_text time ++ l) (session-print w.eui.0 addr w.session (ack_members w gateway) ∙ ap (λ l. session_text w.eui.0 addr w.session ++ l) (ack-print w gateway)))
    ∙ nest8 (codes "{\"event\":\"ack\"") (time_text time) (session_text w.eui.0 addr w.session) (codes ",\"fCnt\":") (decimal w.fcnt) (codes ",\"gatewayId\":\"") (wide gateway) (codes "\"}")

-- ---- their numbers and depth

time_numbers : (time : Option Utc) (ms : Members) → MembersHaveNumbers ms → MembersHaveNumbers (with_time time ms)
time_numbers None ms numbers = numbers
time_numbers (Some t) ms numbers = (tt, numbers)

time_depth : (time : Option Utc) (ms : Members) → members_depth (with_time time ms) ≡ members_depth ms
time_depth None ms = refl
time_depth (Some t) ms = omega arith

pub join-read-back : (time : Option Utc) (eui addr session : ℕ) → session < 2 ^ 32 → document (join_json time eui addr session) ≡ Some (join_value time eui addr session)
join-read-back time eui addr session fits =
    let ms = session_members eui addr session no_members in
    ap document (sym (joins-print time eui addr session))
    ∙ document-print (join_value time eui addr session) (tt, time_numbers time ms (tt, (tt, (IsNumber-decimal session (omega (arith, fits)), tt)))) (omega (arith, time_depth time ms))

pub ack-read-back : (time : Option Utc) (w : WindowName) (addr gateway : ℕ) → NameFits w → document (ack_json time w addr gateway) ≡ Some (ack_value time w addr gateway)
ack-read-back time w addr gateway (session, fcnt) =
    let ms = session_members w.eui.0 addr w.session (ack_members w gateway) in
    ap document (sym (acks-print time w addr gateway))
    ∙ document-print (ack_value time w addr gateway)
    (tt, time_numbers time ms (tt, (tt, (IsNumber-decimal w.session (omega (arith, session)), (IsNumber-decimal w.fcnt (omega (arith, fcnt)), (tt, tt))))))
    (omega (arith, time_depth time ms))
