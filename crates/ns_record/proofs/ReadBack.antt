-- The step line of a call is read back to it.
use Rattle.std.proofs.Common.{◌≡◌, ℕ, ◌-◌, ◌%◌, ◌^◌, ◌<◌, ◌≤◌, ◌==◌, true, false, nat_lt, List, [], ◌∷◌, ◌++◌, map, length, slice_index, codes, Option, None, Some, option_and_then, refl, sym, ap, subst, ◌∙◌, arith, inl, inr, append_assoc, append-nil}
use Rattle.std.specs.Prelude.{decimal, Result, Ok, Err, if◌then◌else◌}
use Rattle.std.specs.Int.{w64, to_be_bytes}
use Rattle.std.proofs.lemmas.Bool.{cond_both}
use Rattle.std.proofs.lemmas.Bool.Decides.{nat_tests}
use Rattle.std.proofs.lemmas.List.Elements.{All-from_recursion}
use Rattle.std.proofs.lemmas.Nat.{from_be_bytes-to_be_bytes_8}
use Rattle.std.proofs.lemmas.Option.{cond_some}
use Rattle.std.proofs.lemmas.Str.{is_utf8-from_IsUtf8, IsUtf8-from_ascii}
use Rattle.serde_json.specs.Data.{Data, object}
use Rattle.hex.specs.Hex.{encode_lower}
use Rattle.hex.proofs.HexLemmas.{decode_of-encode_lower, decode_sized-encode_lower}
use Rattle.ns_types.proofs.ByteLemmas.{each_byte}
use Rattle.ns_types.proofs.ResultLemmas.{bind-some}
use Rattle.ns_types.specs.Bytes.{AreBytes}
use Rattle.ns_types.specs.declared.identity.Key.{Key}
use Rattle.ns_types.specs.declared.identity.WindowName.{WindowName}
use Rattle.ns_types.specs.declared.heard.Heard.{Heard}
use Rattle.ns_types.specs.declared.ticket.Ticket.{Ticket}
use Rattle.ns_types.specs.Ticket.{transaction}
use Rattle.ns_views.specs.declared.ViewFault.{ViewFault}
use Rattle.ns_views.specs.Grammar.{join_request}
use Rattle.ns_views.specs.Frame.{view_fault, ftype_of}
use Rattle.ns_link.specs.declared.LinkFault.{LinkFault}
use Rattle.ns_link.specs.Datagram.{IsUpDatagram, datagram_of}
use Rattle.ns_link.proofs.UpLayout.{reads-exactly}
use Rattle.ns_calls.specs.declared.call.JoinAns.{JoinAns}
use Rattle.ns_calls.specs.declared.call.Outcome.TheVariants.{Success, Failed}
use Rattle.ns_calls.specs.declared.call.Call.{Call}
use Rattle.ns_calls.specs.declared.call.Call.TheVariants as call
use Rattle.ns_calls.specs.Accept.{accept_bytes}
use Rattle.std.specs.List.{AllByRecursion}
use Rattle.ns_calls.specs.Steps.{Refusal, content_call, unless_fault, frame_call, datagram_call}
use Rattle.ns_lines.specs.Text.{wide, window_text, round_text, has_line_feed}
use Rattle.ns_roster.specs.Field.{value_of, whole_at}
use Rattle.ns_roster.proofs.HexLemmas.{hex_bytes-encode_lower}
use Rattle.ns_exchange.specs.declared.answer.AnsFault.{AnsFault}
use Rattle.ns_joinwire.specs.JoinAns.{joinans}
use Rattle.ns_joinwire.specs.Parts.{join_accept_of}
use Rattle.ns_joinwire.specs.Spelled.{SpellsKey, SpellsAppSKey, SpellsAnswer}
use Rattle.ns_joinwire.proofs.SpelledLemmas.{answer-spelled, spelled-answer}
use Rattle.ns_acts.specs.declared.step.Act.{Act}
use Rattle.ns_acts.specs.declared.step.Act.TheVariants.{Datagram, Answer, Lost, Close}
use Rattle.ns_acts.specs.Calls.{call_of, outcome_of}
use Rattle.ns_steps.specs.StepLines.{raw_lines, number, step, steps}
use Rattle.ns_steps.proofs.LineLemmas.{raw_lines_nil, raw_lines_ended}
use Rattle.ns_steps.specs.Spelled.{SpellsStep, SpellsCounter}
use Rattle.ns_steps.proofs.SpelledLemmas.{spelled-step}
use Rattle.ns_record.specs.StepText.{key_text, app_text, accept_text, join_text, heard_text, lost_text, answer_text, close_text, step_text, IsTicket, IsName, IsWhole, record_text, IsOfAStep, ReadsBack, AreReadBack}
use Rattle.ns_record.proofs.Plain.{plain, both, unended, no_return, no_feed, ascii, hex_plain, decimal_plain}
use Rattle.ns_record.proofs.Decimals.{number-decimal}
use Rattle.ns_record.proofs.JoinText.{IsKey, IsKeyOrNone, join_data, key_data, rest_data, with_app, join-read}
use Rattle.ns_record.proofs.Known.{hex-read, accept-back}

-- a line of printable bytes that spells a step is read as it, and has no line feed
abbrev IsLineOf : List ℕ → Act → Type 0
IsLineOf line act = (plain line ≡ true) × (step line ≡ Some act)

line-of : (line : List ℕ) (act : Act) → plain line ≡ true → SpellsStep line act → IsLineOf line act
line-of line act is spelled = (is, spelled-step line act (line, inr (refl, no_return line is (length line - 1)), spelled))

-- ---- a datagram

heard-line : (bytes : List ℕ) (h : Heard) (frame : List ℕ) → AreBytes bytes → IsUpDatagram bytes h frame → IsLineOf (heard_text h frame) (Datagram bytes)
unfolding heard_text
heard-line bytes h frame are is =
    let some : 0 < length bytes = subst (λ (l : List ℕ). 0 < length l) (sym is.parts) (omega arith) in
    let shown = both (codes "heard ") (encode_lower bytes) refl (hex_plain bytes (each_byte bytes are)) in
    subst (λ (l : List ℕ). IsLineOf (codes "heard " ++ encode_lower l) (Datagram bytes)) is.parts
    (line-of (codes "heard " ++ encode_lower bytes) (Datagram bytes) shown (encode_lower bytes, refl, decode_of-encode_lower bytes (each_byte bytes are), some))

-- what is shown of each call: its line is read back to a step that makes it
abbrev HasLine : Call → Type 0
HasLine c = (act : Act) × IsLineOf (step_text c) act × (call_of act ≡ Ok c)

same_Ok : {F : Type 0} (x y : Call) → ◌≡◌ {A = Result Call F} (Ok x) (Ok y) → x ≡ y
same_Ok x y h = cc

frame_text : (h : Heard) (frame : List ℕ) → step_text (frame_call h frame) ≡ heard_text h frame
frame_text h frame = cond_both (ftype_of frame == join_request) _ _ (λ c. step_text c ≡ heard_text h frame) (λ _. refl) (λ _. refl)

datagram-line : (bytes : List ℕ) (c : Call) → AreBytes bytes → datagram_call bytes ≡ Ok c → HasLine c
datagram-line bytes c are is = by (datagram_of bytes) refl is
  where
    framed : (d : Heard × List ℕ) → datagram_of bytes ≡ Ok d → (f : Option ViewFault) → unless_fault f (frame_call d.0 d.1) ≡ Ok c → HasLine c
    framed d at None h =
        let same : frame_call d.0 d.1 ≡ c = same_Ok (frame_call d.0 d.1) c h in
        let line : IsLineOf (heard_text d.0 d.1) (Datagram bytes) = heard-line bytes d.0 d.1 are ((reads-exactly bytes d.0 d.1 are).0 at) in
        (Datagram bytes, subst (λ (l : List ℕ). IsLineOf l (Datagram bytes)) (sym (frame_text d.0 d.1) ∙ ap step_text same) line, is)
    framed d at (Some fault) h = absurd (cc h)

    by : (r : Result (Heard × List ℕ) LinkFault) → datagram_of bytes ≡ r → content_call r ≡ Ok c → HasLine c
    by (Err fault) at h = absurd (cc h)
    by (Ok d) at h = framed d at (view_fault d.1) h

-- ---- a ticket that is lost

ticket-hex : (t : Ticket) → IsTicket t → plain (encode_lower t.0) ≡ true
ticket-hex t is = hex_plain t.0 (each_byte t.0 is.bytes)

lost-line : (t : Ticket) → IsTicket t → HasLine (call.JoinReply t Failed)
unfolding lost_text
lost-line t is =
    (Lost t, line-of (codes "lost " ++ encode_lower t.0) (Lost t) (both (codes "lost ") (encode_lower t.0) refl (ticket-hex t is)) (encode_lower t.0, refl, decode_sized-encode_lower t.0 23 is.sized (each_byte t.0 is.bytes)), refl)

-- ---- an answer

key-plain : (key : Key) → IsKey key → plain (key_text key) ≡ true
unfolding key_text
key-plain key is = both (codes "{\"AESKey\":\"" ++ encode_lower key.0) (codes "\"}") (both (codes "{\"AESKey\":\"") (encode_lower key.0) refl (hex_plain key.0 is.bytes)) refl

app-plain : (app : Option Key) → IsKeyOrNone app → plain (app_text app) ≡ true
unfolding app_text
app-plain None is = refl
app-plain (Some key) is = both (codes "\"AppSKey\":" ++ key_text key) (codes ",") (both (codes "\"AppSKey\":") (key_text key) refl (key-plain key is)) refl

join-plain : (t : ℕ) (join : JoinAns) → IsKeyOrNone join.app → IsKey join.nwk → ((i : ℕ) → slice_index (accept_bytes join.accept) i < 256) → plain (join_text t join) ≡ true
unfolding join_text accept_text
join-plain t join app nwk accept =
    let hex : List ℕ = encode_lower (accept_bytes join.accept) in
    let head : List ℕ = codes "{" ++ app_text join.app in
    let keys : List ℕ = (head ++ codes "\"MessageType\":\"JoinAns\",\"NwkSKey\":") ++ key_text join.nwk in
    let first : List ℕ = codes ",\"PHYPayload\":\"" ++ hex in
    let second : List ℕ = first ++ codes "\",\"Result\":{\"ResultCode\":\"Success\"},\"TransactionID\":" in
    both keys ((second ++ decimal t) ++ codes "}")
    (both (head ++ codes "\"MessageType\":\"JoinAns\",\"NwkSKey\":") (key_text join.nwk) (both head (codes "\"MessageType\":\"JoinAns\",\"NwkSKey\":") (both (codes "{") (app_text join.app) refl (app-plain join.app app)) refl) (key-plain join.nwk nwk))
    (both (second ++ decimal t) (codes "}")
    (both second (decimal t) (both first (codes "\",\"Result\":{\"ResultCode\":\"Success\"},\"TransactionID\":") (both (codes ",\"PHYPayload\":\"") hex refl (hex_plain (accept_bytes join.accept) accept)) refl) (decimal_plain t)) refl)

key-known : (envelope : Data) (key : Key) → SpellsKey envelope key → IsKey key
key-known envelope key is = let read = hex-read 16 is.text key.0 is.bytes in record { sized = read.sized; bytes = read.are }

app-known : (message : Data) (app : Option Key) → SpellsAppSKey message app → IsKeyOrNone app
app-known message None is = tt
app-known message (Some key) (envelope, at, is) = key-known envelope key is

small_of : (o : Option ℕ) (t : ℕ) → option_and_then (λ n. if nat_lt n (2 ^ 32) then Some n else None) o ≡ Some t → nat_lt t (2 ^ 32) ≡ true
small_of o t h =
    let (n, is, kept) = bind-some o _ t h in
    let (low, same) = cond_some (nat_lt n (2 ^ 32)) n t kept in
    subst (λ (m : ℕ). nat_lt m (2 ^ 32) ≡ true) same low

key-spelled : (key : Key) → IsKey key → SpellsKey (key_data key) key
key-spelled key is = record { text = encode_lower key.0; aes_key = refl; bytes = hex_bytes-encode_lower key.0 16 is.sized is.bytes; plain = refl }

answer-again : (body : List ℕ) (t : ℕ) (join : JoinAns) → joinans body t ≡ Ok join → (plain (join_text t join) ≡ true) × (joinans (join_text t join) t ≡ Ok join)
answer-again body t join is =
    let said = answer-spelled body t join is in
    let message : Data = said.0 in
    let s = said.2 in
    let nwk : IsKey join.nwk = key-known s.nwk_envelope join.nwk s.nwk in
    let app : IsKeyOrNone join.app = app-known message join.app s.app in
    let accept = accept-back s.frame join.accept s.accept in
    let small : nat_lt t (2 ^ 32) ≡ true = small_of (whole_at (codes "TransactionID") message) t s.transaction_id in
    let fits : t < 2 ^ 64 = grind (arith, nat_tests, small) in
    let shown : plain (join_text t join) ≡ true = join-plain t join app nwk accept.1 in
    let value : value_of (join_text t join) ≡ Some (join_data t join) =
    rw (is_utf8-from_IsUtf8 (join_text t join) (IsUtf8-from_ascii (join_text t join) (ascii (join_text t join) shown))) (join-read t join fits app nwk accept.1) in
    (shown, spelled-answer (join_text t join) t join (join_data t join, value, by join.app app nwk accept.0 small))
  where
    by : (o : Option Key) → IsKeyOrNone o → IsKey join.nwk → join_accept_of (encode_lower (accept_bytes join.accept)) ≡ Some join.accept → nat_lt t (2 ^ 32) ≡ true → SpellsAnswer (object (with_app o (rest_data t join))) t (record join { app = o })
    by None known nwk accept small = record {
      message_type = refl;
      transaction_id = rw small refl;
      result_code = refl;
      frame = encode_lower (accept_bytes join.accept);
      phy_payload = refl;
      accept = accept;
      nwk_envelope = key_data join.nwk;
      nwk_s_key = refl;
      nwk = key-spelled join.nwk nwk;
      app = inl refl;
    }
    by (Some key) known nwk accept small = record {
      message_type = refl;
      transaction_id = rw small refl;
      result_code = refl;
      frame = encode_lower (accept_bytes join.accept);
      phy_payload = refl;
      accept = accept;
      nwk_envelope = key_data join.nwk;
      nwk_s_key = refl;
      nwk = key-spelled join.nwk nwk;
      app = (key_data key, refl, key-spelled key known);
    }

answer-line : (t : Ticket) (body : List ℕ) (join : JoinAns) → IsTicket t → joinans body (transaction t) ≡ Ok join → HasLine (call.JoinReply t (Success join))
unfolding answer_text
answer-line t body join is found =
    let again = answer-again body (transaction t) join found in
    let hex : List ℕ = encode_lower t.0 in
    let text : List ℕ = join_text (transaction t) join in
    let shown = both ((codes "answer " ++ hex) ++ codes " ") text (both (codes "answer " ++ hex) (codes " ") (both (codes "answer ") hex refl (ticket-hex t is)) refl) again.0 in (
      Answer t text,
      line-of (((codes "answer " ++ hex) ++ codes " ") ++ text) (Answer t text) shown
          (hex, ap (λ (l : List ℕ). codes "answer " ++ l) (append_assoc hex (codes " ") text), decode_sized-encode_lower t.0 23 is.sized (each_byte t.0 is.bytes)),
      ap (λ (r : Result JoinAns AnsFault). Ok (call.JoinReply t (outcome_of r))) again.1,
    )

-- the end of asking a join server
reply-line : (t : Ticket) (body : List ℕ) → IsTicket t → (r : Result JoinAns AnsFault) → joinans body (transaction t) ≡ r → HasLine (call.JoinReply t (outcome_of r))
reply-line t body is (Ok join) found = answer-line t body join is found
reply-line t body is (Err fault) found = lost-line t is

-- ---- a closing

wide_byte : (n i : ℕ) → slice_index (to_be_bytes w64 n) i < 256
wide_byte n =
    let small : (k : ℕ) → k % 256 < 256 = λ k. omega arith in
    each_byte (to_be_bytes w64 n) (All-from_recursion (λ b. b < 256) (to_be_bytes w64 n) (small _, (small _, (small _, (small _, (small _, (small _, (small _, (small _, tt)))))))))

counter-spelled : (w : WindowName) → IsName w → SpellsCounter (decimal w.fcnt ++ round_text w.round) w.fcnt w.round
counter-spelled w is =
    cond_both (nat_lt 1 w.round) (codes ":" ++ decimal w.round) [] (λ l. SpellsCounter (decimal w.fcnt ++ l) w.fcnt w.round)
    (λ above. inr (decimal w.fcnt, decimal w.round, refl, number-decimal w.fcnt is.fcnt, number-decimal w.round is.round, grind (arith, nat_tests, above)))
    (λ first. inl (ap number (append-nil (decimal w.fcnt)) ∙ number-decimal w.fcnt is.fcnt, (let low : 1 ≤ w.round = is.first in grind (arith, nat_tests, first, low))))

round-plain : (round : ℕ) → plain (round_text round) ≡ true
round-plain round =
    cond_both (nat_lt 1 round) (codes ":" ++ decimal round) [] (λ l. plain l ≡ true) (λ _. both (codes ":") (decimal round) refl (decimal_plain round)) (λ _. refl)

close-line : (w : WindowName) → IsName w → HasLine (call.Close w)
unfolding close_text window_text wide
close-line w is =
    let hex : List ℕ = encode_lower (to_be_bytes w64 w.eui.0) in
    let session : List ℕ = codes " " ++ decimal w.session in
    let fcnt : List ℕ = codes " " ++ decimal w.fcnt in
    let round : List ℕ = round_text w.round in
    let rest : List ℕ = ((hex ++ session) ++ fcnt) ++ round in
    let hex_shown = hex_plain (to_be_bytes w64 w.eui.0) (wide_byte w.eui.0) in
    let shown : plain (codes "close " ++ rest) ≡ true =
    both (codes "close ") rest refl
    (both ((hex ++ session) ++ fcnt) round
    (both (hex ++ session) fcnt (both hex session hex_shown (both (codes " ") (decimal w.session) refl (decimal_plain w.session))) (both (codes " ") (decimal w.fcnt) refl (decimal_plain w.fcnt))) (round-plain w.round)) in (
      Close w,
      line-of (codes "close " ++ rest) (Close w) shown (
        rest,
        refl,
        record {
          eui = hex;
          session = decimal w.session;
          fcnt = decimal w.fcnt ++ round;
          are = append_assoc (hex ++ session) fcnt round ∙ append_assoc hex session (fcnt ++ round);
          bytes = to_be_bytes w64 w.eui.0;
          hex = decode_sized-encode_lower (to_be_bytes w64 w.eui.0) 8 refl (wide_byte w.eui.0);
          is_eui = from_be_bytes-to_be_bytes_8 w.eui.0 is.eui;
          is_session = number-decimal w.session is.session;
          is_fcnt = counter-spelled w is;
        },
      ),
      refl,
    )

-- ---- each call of a step

line-for : (c : Call) (act : Act) → IsWhole act → call_of act ≡ Ok c → HasLine c
line-for c (Datagram bytes) are is = datagram-line bytes c are is
line-for c (Answer t body) whole is = subst HasLine (same_Ok _ c is) (reply-line t body whole (joinans body (transaction t)) refl)
line-for c (Lost t) whole is = subst HasLine (same_Ok _ c is) (lost-line t whole)
line-for c (Close w) whole is = subst HasLine (same_Ok _ c is) (close-line w whole)

pub back : (c : Call) → IsOfAStep c → ReadsBack (step_text c) c
back c (act, whole, is) = let line = line-for c act whole is in (line.0, line.1.1, line.2)

pub one_line : (c : Call) → IsOfAStep c → has_line_feed (step_text c) ≡ false
one_line c (act, whole, is) = let line = line-for c act whole is in no_feed (step_text c) line.1.0

-- ---- the text of a record

pub records_back : (calls : List Call) → AllByRecursion IsOfAStep calls → AreReadBack (record_text calls) calls
records_back [] are = ([], ap (map step) raw_lines_nil, refl)
records_back (c ∷ calls) are =
    let line = line-for c are.0.0 are.0.1 are.0.2 in
    let rest = records_back calls are.1 in
    let split : raw_lines (record_text (c ∷ calls)) ≡ step_text c ∷ raw_lines (record_text calls) =
    ap raw_lines (append_assoc (step_text c) (10 ∷ []) (record_text calls)) ∙ raw_lines_ended (step_text c) (record_text calls) (unended (step_text c) line.1.0) in (
      line.0 ∷ rest.0,
      ap (map step) split ∙ (ap (λ (o : Option Act). o ∷ steps (record_text calls)) line.1.1 ∙ ap (λ (os : List (Option Act)). Some line.0 ∷ os) rest.1),
      ap (λ (r : Result Call Refusal). r ∷ map call_of rest.0) line.2 ∙ ap (λ (rs : List (Result Call Refusal)). Ok c ∷ rs) rest.2,
    )
