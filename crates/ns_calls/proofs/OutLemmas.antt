-- What goes out, and with which replies.
use Rattle.std.proofs.Common.{◌≡◌, ◌⊎◌, ℕ, ◌+◌, ◌<◌, Bool, true, false, not, ◌&&◌, ◌||◌, cond, List, [], ◌∷◌, ◌++◌, map, length, Option, None, Some, IfSome, option_map, length-append, refl, sym, ap, subst, ◌∙◌, arith, inl, inr}
use Rattle.ns_calls.specs.declared.answer.Downlink.{Downlink}
use Rattle.std.proofs.lemmas.Bool.{and_parts, or_cases, or_left, or_right, cond-true}
use Rattle.std.proofs.Math.Bool.{or-false}
use Rattle.std.specs.Prelude.{IsSome, is_some}
use Rattle.std.specs.List.{AllByRecursion, list_any}
use Rattle.std.specs.Option.{option_and_then}
use Rattle.ns_types.specs.declared.identity.DevAddr.{DevAddr}
use Rattle.ns_types.specs.declared.identity.DevEui.{DevEui}
use Rattle.ns_types.specs.declared.identity.WindowName.{WindowName}
use Rattle.ns_types.specs.declared.heard.Heard.{Heard}
use Rattle.ns_types.specs.declared.ticket.Ticket.{Ticket}
use Rattle.ns_types.specs.Cases.{first_case, when}
use Rattle.ns_types.specs.Identity.{same_window, is_first}
use Rattle.ns_types.specs.Ticket.{dev_eui}
use Rattle.ns_types.specs.Heard.{best, rx1}
use Rattle.ns_views.specs.Frame.{data_fields}
use Rattle.ns_roster.specs.Network.{Network, ack_delay}
use Rattle.ns_calls.specs.declared.call.JoinAns.{JoinAns}
use Rattle.ns_calls.specs.declared.call.Outcome.{Outcome}
use Rattle.ns_calls.specs.declared.call.Outcome.TheVariants as outcome
use Rattle.ns_calls.specs.declared.call.Call.{Call}
use Rattle.ns_calls.specs.declared.call.Call.TheVariants as call
use Rattle.ns_calls.specs.declared.call.Reply.{Reply}
use Rattle.ns_calls.specs.declared.call.Reply.TheVariants as reply
use Rattle.ns_calls.specs.declared.call.Entry.{Entry}
use Rattle.ns_calls.specs.Accept.{accept_bytes}
use Rattle.ns_calls.specs.Queries.{from_last}
use Rattle.ns_calls.specs.Entries.{Opening, closes, open_windows}
use Rattle.ns_calls.specs.History.{asks_for, ends_ticket, open_window, window_copies, is_ticket_open, ticket_copies, copies_of_ticket, session_join, next_session}
use Rattle.ns_calls.proofs.Says.{window_in, window_copy_in, opening-copy, asking-copy}
use Rattle.ns_calls.specs.Reply.{reply_to, reply_to_uplink, is_failed, address, ack_number}
use Rattle.ns_calls.specs.Out.{uplink_of, first_uplink_of, uplink_out, downlink_out, downlink_to, ack_frame, ack_downlink, join_accept_delay}
use Rattle.ns_calls.specs.Legal.{IsLegal, entry_for, with_call}
use Rattle.ns_calls.specs.Headline.{WindowsHaveCopies, hands_out_downlink, GoesOut, nonce_at_or_above}
use Rattle.ns_calls.specs.Laws.{hands_out_uplink}
use Rattle.ns_calls.proofs.Lists.{All-after, All-weaker, IfSome-weaker, find-has}
use Rattle.ns_calls.proofs.PushLemmas.{open_windows-push, window_copies-push}
use Rattle.ns_calls.proofs.TicketLemmas.{is_ticket_open-cons}
use Rattle.ns_calls.proofs.Induction.{legal_induction}
use Rattle.ns_calls.proofs.JoinLemmas.{join_reply_by, join-has}
use Rattle.ns_calls.proofs.UplinkLemmas.{uplink-has}
use Rattle.ns_calls.proofs.NameLemmas.{same_window-refl, same_window-eq}
use Rattle.ns_calls.proofs.KeyLemmas.{is_some-map, sessions_have_joins}

-- ---- an open window has a copy

copies-stay : (h : List Entry) (e : Entry) (w : WindowName) → 0 < length (window_copies h w) → 0 < length (window_copies (h ++ e ∷ []) w)
copies-stay h e w some = rw (window_copies-push h e w, length-append) (omega (arith, some))

copies-new : (h : List Entry) (e : Entry) (o : Opening) → window_copy_in e.call e.reply ≡ Some (o.window, o.heard) → 0 < length (window_copies (h ++ e ∷ []) o.window)
copies-new h e o copied = rw (window_copies-push h e o.window, copied, same_window-refl o.window, length-append) (omega arith)

copies_step : (net : Network) (h : List Entry) (number : ℕ) (c : Call) → WindowsHaveCopies h → WindowsHaveCopies (with_call net h number c)
copies_step net h number c copied =
    subst (AllByRecursion Copied) (sym (open_windows-push h e))
    (All-after Copied (λ o. not (closes o.window e)) (open_windows h) (window_in e.call e.reply)
    (All-weaker (λ (o : Opening). 0 < length (window_copies h o.window)) Copied (λ o some. copies-stay h e o.window some) (open_windows h) copied)
    (IfSome-weaker (λ (o : Opening). window_copy_in e.call e.reply ≡ Some (o.window, o.heard)) Copied (window_in e.call e.reply) (λ o is. copies-new h e o is) (opening-copy e.call e.reply)))
  where
    e : Entry
    e = entry_for net h number c

    Copied : Opening → Type 0
    Copied o = 0 < length (window_copies (h ++ e ∷ []) o.window)

pub windows_have_copies : (net : Network) (h : List Entry) → IsLegal net h → WindowsHaveCopies h
windows_have_copies net h legal = legal_induction net WindowsHaveCopies tt (λ g number c ok copied. copies_step net g number c copied) h legal

best-some : (copies : List Heard) → 0 < length copies → is_some (best copies) ≡ true
best-some [] some = absurd (omega (arith, some))
best-some (c ∷ cs) some = refl

-- ---- an open ticket has a copy

pub or_true : (a b : Bool) → (a || b) ≡ true → (a ≡ true) ⊎ (b ≡ true)
or_true = or_cases

-- an open ticket was asked for
pub open-asked : (h : List Entry) (t : Ticket) → is_ticket_open h t ≡ true → list_any (asks_for t) h ≡ true
open-asked [] t is = absurd (cc is)
open-asked (e ∷ es) t is =
    elim (or_true (asks_for t e && not (list_any (ends_ticket t) es)) (is_ticket_open es t) (sym (is_ticket_open-cons e es t) ∙ is)) [
      | inl here ↦ or_left (asks_for t e) _ (and_parts (asks_for t e) _ here).0
      | inr later ↦ or_right (asks_for t e) _ (open-asked es t later)
    ]

-- the last element that passes, and those after it
from_last-first : {E : Type 0} (test : E → Bool) (es : List E) → list_any test es ≡ true → (x : E) × (rest : List E) × (from_last test es ≡ x ∷ rest) × (test x ≡ true)
from_last-first test [] is = absurd (cc is)
from_last-first {E} test (e ∷ es) is =
    let Found : Bool → Type 0 = λ any. (x : E) × (rest : List E) × (cond any (from_last test es) (cond (test e) (e ∷ es) []) ≡ x ∷ rest) × (test x ≡ true) in
    (elim (list_any test es) as (λ any. list_any test es ≡ any → (test e || any) ≡ true → Found any) [
      | true ↦ λ later _. from_last-first test es later
      | false ↦ λ _ last_one.
          (let here : test e ≡ true = sym (or-false (test e)) ∙ last_one in
          (e, es, cond-true (test e) (e ∷ es) [] here, here))
    ]) refl is

asked-copies : (t : Ticket) (x : Entry) (rest : List Entry) → asks_for t x ≡ true → 0 < length (copies_of_ticket (x ∷ rest) t)
asked-copies t x rest is = (let copy = asking-copy t x.call x.reply is in rw (copy.2, copy.3) (omega arith))

pub open-heard : (h : List Entry) (t : Ticket) → is_ticket_open h t ≡ true → is_some (best (ticket_copies h t)) ≡ true
open-heard h t is =
    let found = from_last-first (asks_for t) h (open-asked h t is) in
    best-some (ticket_copies h t) (subst (λ es. 0 < length (copies_of_ticket es t)) (sym found.2) (asked-copies t found.0 found.1 found.3))

-- ---- the replies with which nothing goes out

abbrev IsQuiet : Reply → Type 0
IsQuiet r = (hands_out_uplink r ≡ false) × (hands_out_downlink r ≡ false)

uplink-quiet : (net : Network) (h : List Entry) (frame : List ℕ) → IsQuiet (reply_to_uplink net h frame)
uplink-quiet net h frame = uplink-has IsQuiet net h frame (record {
  copied = λ o is room. (refl, refl);
  crowded = λ o is full. (refl, refl);
  opened = λ f none is room. (refl, refl);
  again = λ f round none is confirmed next room. (refl, refl);
  busy = λ recover f is. (refl, refl);
  old = λ f is. (refl, refl);
  none = (refl, refl);
})

join-quiet : (net : Network) (h : List Entry) (t : Ticket) (heard : Heard) → IsQuiet (reply_to net h (call.Join t heard))
join-quiet net h t heard = join-has IsQuiet net h t (record {
  unknown = λ unknown. (refl, refl);
  old = λ known greatest. (refl, refl);
  copied = λ known room. (refl, refl);
  crowded = (refl, refl);
  busy = (refl, refl);
  ask = λ known closed room. (refl, refl);
})

-- ---- what goes out

out_of_join_reply : (net : Network) (h : List Entry) (t : Ticket) (o : Outcome) (is_open : Bool) → (is_open ≡ true → is_some (best (ticket_copies h t)) ≡ true) → (stale : Option ℕ) (eui : DevEui) (session : ℕ) (addr : DevAddr) →
    let r : Reply = join_reply_by is_open (is_failed o) stale (reply.Accepted eui session addr) in
    (false ≡ hands_out_uplink r) × (is_some (downlink_out net h (call.JoinReply t o) r) ≡ hands_out_downlink r)
out_of_join_reply net h t outcome.Failed true heard stale eui session addr = (refl, refl)
out_of_join_reply net h t outcome.Failed false heard stale eui session addr = (refl, refl)
out_of_join_reply net h t (outcome.Success join) true heard None eui session addr =
    (refl, is_some-map (λ copy. downlink_to (accept_bytes join.accept) (rx1 copy 0 join_accept_delay)) (best (ticket_copies h t)) ∙ heard refl)
out_of_join_reply net h t (outcome.Success join) true heard (Some g) eui session addr = (refl, refl)
out_of_join_reply net h t (outcome.Success join) false heard stale eui session addr = (refl, refl)

ack-goes_out : (net : Network) (h : List Entry) (o : Opening) (n : ℕ) → IsSome (session_join h o.window.eui o.window.session) → is_some (best (window_copies h o.window)) ≡ true → is_some (ack_downlink net h o n) ≡ true
ack-goes_out net h o n keyed heard =
    let sent : JoinAns → Heard → Downlink = λ join copy. downlink_to (ack_frame join.nwk.0 (data_fields o.frame).addr n) (rx1 copy net.rx1_offset (ack_delay net)) in
    let copy : Option Heard = best (window_copies h o.window) in
    (elim (session_join h o.window.eui o.window.session) as (λ j. IsSome j → is_some (option_and_then (λ (join : JoinAns). option_map (sent join) copy) j) ≡ true) [
      | None ↦ λ none. none
      | Some join ↦ λ _. is_some-map (sent join) copy ∙ heard
    ]) keyed

out_of_close : (net : Network) (h : List Entry) (w : WindowName) (found : Option Opening) → open_window h w ≡ found
    → IfSome found (λ o. (IsSome (session_join h o.window.eui o.window.session) × (0 < length (window_copies h o.window))) × (same_window o.window w ≡ true)) →
    let r : Reply = first_case (option_map (λ o. reply.Closed w (ack_number h o)) found ∷ []) reply.NoWindow in
    (is_some (uplink_out h (call.Close w) r) ≡ hands_out_uplink r) × (is_some (downlink_out net h (call.Close w) r) ≡ hands_out_downlink r)
out_of_close net h w None is whole = (refl, refl)
out_of_close net h w (Some o) is whole =
    (ap (λ found. is_some (option_and_then (first_uplink_of h) found)) is ∙ (first ∙ ap is_first (same_window-eq o.window w whole.1)), step (ack_number h o))
  where
    first : is_some (when (is_first o.window) (uplink_of h o)) ≡ is_first o.window
    first = elim (is_first o.window) as (λ b. is_some (when b (uplink_of h o)) ≡ b) [ true ↦ refl | false ↦ refl ]

    step : (ack : Option ℕ) → is_some (downlink_out net h (call.Close w) (reply.Closed w ack)) ≡ is_some ack
    step None = refl
    step (Some n) = ap (λ found. is_some (option_and_then (λ x. ack_downlink net h x n) found)) is ∙ ack-goes_out net h o n whole.0.0 (best-some (window_copies h o.window) whole.0.1)

All-both : {X : Type 0} (P Q : X → Type 0) (xs : List X) → AllByRecursion P xs → AllByRecursion Q xs → AllByRecursion (λ x. P x × Q x) xs
All-both P Q [] all other = tt
All-both P Q (x ∷ xs) all other = ((all.0, other.0), All-both P Q xs all.1 other.1)

pub goes_out : (net : Network) (h : List Entry) (c : Call) → IsLegal net h → GoesOut net h c
goes_out net h (call.Uplink frame heard) legal =
    let quiet = uplink-quiet net h frame in
    record { uplink = sym quiet.0; downlink = sym quiet.1 }
goes_out net h (call.Join t heard) legal =
    let quiet = join-quiet net h t heard in
    record { uplink = sym quiet.0; downlink = sym quiet.1 }
goes_out net h (call.JoinReply t o) legal =
    let is = out_of_join_reply net h t o (is_ticket_open h t) (open-heard h t) (nonce_at_or_above net h t) (dev_eui t) (next_session h (dev_eui t)) (address net (dev_eui t)) in
    record { uplink = is.0; downlink = is.1 }
goes_out net h (call.Close w) legal =
    let Whole : Opening → Type 0 = λ o. IsSome (session_join h o.window.eui o.window.session) × (0 < length (window_copies h o.window)) in
    let each : AllByRecursion Whole (open_windows h) =
    All-both (λ (o : Opening). IsSome (session_join h o.window.eui o.window.session)) (λ (o : Opening). 0 < length (window_copies h o.window)) (open_windows h) (sessions_have_joins net h legal).of_windows (windows_have_copies net h legal) in
    let found : IfSome (open_window h w) (λ o. Whole o × (same_window o.window w ≡ true)) = find-has Whole (λ (o : Opening). same_window o.window w) (open_windows h) each in
    let is = out_of_close net h w (open_window h w) refl found in
    record { uplink = is.0; downlink = is.1 }
