-- Of one uplink at most one goes out.
use Rattle.std.proofs.Common.{◌≡◌, ℕ, ◌+◌, ◌≤◌, ◌==◌, true, ◌&&◌, cond, List, [], ◌∷◌, ◌++◌, count_by, Option, None, Some, IfSome, option_to_list, sym, ap, subst, ◌∙◌, arith}
use Rattle.std.proofs.lemmas.Bool.{cond_both}
use Rattle.std.proofs.Math.Bool.{and-true}
use Rattle.std.specs.Option.{option_and_then}
use Rattle.std.proofs.lemmas.List.{append_assoc, append-nil}
use Rattle.ns_types.specs.declared.identity.WindowName.{WindowName}
use Rattle.ns_types.specs.Identity.{same_uplink, same_window, is_first}
use Rattle.ns_roster.specs.Network.{Network}
use Rattle.ns_calls.specs.declared.answer.Uplink as answer_uplink
use Rattle.ns_calls.specs.declared.call.Call.{Call}
use Rattle.ns_calls.specs.declared.call.Call.TheVariants as call
use Rattle.ns_calls.specs.declared.call.Reply.{Reply}
use Rattle.ns_calls.specs.declared.call.Reply.TheVariants as reply
use Rattle.ns_calls.specs.declared.call.Entry.{Entry}
use Rattle.ns_calls.specs.Entries.{Opening, Closing, open_windows}
use Rattle.ns_calls.proofs.Says.{closing_in}
use Rattle.ns_calls.specs.History.{open_window}
use Rattle.ns_calls.specs.Out.{uplink_of, first_uplink_of, uplink_out}
use Rattle.ns_calls.specs.Legal.{IsLegal, entry_for}
use Rattle.ns_calls.specs.Laws.{closing_count}
use Rattle.ns_calls.specs.Headline.{uplinks_after, UplinksGoOutOnce}
use Rattle.ns_calls.proofs.Lists.{find-passes, count-append, count-cons}
use Rattle.ns_calls.proofs.Induction.{legal_induction}
use Rattle.ns_calls.proofs.NameLemmas.{same_window-eq}
use Rattle.ns_calls.proofs.WindowLemmas.{closings-added, windows_open_once}

uplinks-push : (before es : List Entry) (e : Entry) → uplinks_after before (es ++ e ∷ []) ≡ uplinks_after before es ++ option_to_list (uplink_out (before ++ es) e.call e.reply)
uplinks-push before [] e = append-nil (option_to_list (uplink_out before e.call e.reply)) ∙ ap (λ g. option_to_list (uplink_out g e.call e.reply)) (sym (append-nil before))
uplinks-push before (x ∷ es) e =
    let here = option_to_list (uplink_out before x.call x.reply) in
    ap (λ us. here ++ us) (uplinks-push (before ++ x ∷ []) es e)
    ∙ (sym (append_assoc here (uplinks_after (before ++ x ∷ []) es) (option_to_list (uplink_out ((before ++ x ∷ []) ++ es) e.call e.reply)))
    ∙ ap (λ g. (here ++ uplinks_after (before ++ x ∷ []) es) ++ option_to_list (uplink_out g e.call e.reply)) (append_assoc before (x ∷ []) es))

-- the first window of an uplink
abbrev first_of : WindowName → WindowName
first_of w = record { eui = w.eui; session = w.session; fcnt = w.fcnt; round = 1 }

-- how many uplinks of this window's uplink, and how many closings of its first window
abbrev uplinks_of : WindowName → List answer_uplink.Uplink → ℕ
uplinks_of w us = count_by (λ (u : answer_uplink.Uplink). same_uplink u.window w) us

abbrev closings_of : WindowName → Option Closing → ℕ
closings_of w c = count_by (λ (x : Closing). same_window x.window (first_of w)) (option_to_list c)

-- an uplink goes out with the closing of its first window
with-closing : (h : List Entry) (w v : WindowName) (ack : Option ℕ) (found : Option Opening) → IfSome found (λ o. same_window o.window v ≡ true) →
    uplinks_of w (option_to_list (option_and_then (first_uplink_of h) found)) ≤ closings_of w (Some (record { window = v; ack = ack }))
with-closing h w v ack None named = omega arith
with-closing h w v ack (Some o) named =
    let c : Closing = record { window = v; ack = ack } in
    let name : o.window ≡ v = same_window-eq o.window v named in
    let closes : closings_of w (Some c) ≡ cond (same_uplink v w && (v.round == 1)) 1 0 + 0 = count-cons (λ (x : Closing). same_window x.window (first_of w)) c [] in
    cond_both (is_first o.window) (Some (uplink_of h o)) None (λ u. uplinks_of w (option_to_list u) ≤ closings_of w (Some c))
    (λ is.
    let first : (v.round == 1) ≡ true = subst (λ (x : WindowName). (x.round == 1) ≡ true) name is in
    let goes : uplinks_of w (uplink_of h o ∷ []) ≡ cond (same_uplink v w) 1 0 + 0 =
    count-cons (λ (u : answer_uplink.Uplink). same_uplink u.window w) (uplink_of h o) [] ∙ ap (λ (x : WindowName). cond (same_uplink x w) 1 0 + 0) name in
    let both : cond {A = ℕ} (same_uplink v w && (v.round == 1)) 1 0 ≡ cond (same_uplink v w) 1 0 = ap (λ b. cond {A = ℕ} b 1 0) (ap (λ b. same_uplink v w && b) first ∙ and-true (same_uplink v w)) in
    omega (arith, closes, goes, both))
    (λ _. omega arith)

none_sent : {n : ℕ} → 0 ≤ n
none_sent = omega arith

sent-closing : (h : List Entry) (w : WindowName) (c : Call) (r : Reply) → uplinks_of w (option_to_list (uplink_out h c r)) ≤ closings_of w (closing_in c r)
sent-closing h w (call.Close v) (reply.Closed closed ack) =
    with-closing h w v ack (open_window h v) (find-passes (λ (o : Opening). same_window o.window v) (open_windows h))
sent-closing h w (call.Close v) _ = none_sent
sent-closing h w (call.Uplink frame heard) r = none_sent
sent-closing h w (call.Join t heard) r = none_sent
sent-closing h w (call.JoinReply t o) r = none_sent

abbrev Bounded : List Entry → Type 0
Bounded h = (w : WindowName) → uplinks_of w (uplinks_after [] h) ≤ closing_count h (first_of w)

bounded_step : (h : List Entry) (e : Entry) → Bounded h → Bounded (h ++ e ∷ [])
bounded_step h e bounded w =
    let sent : List answer_uplink.Uplink = option_to_list (uplink_out h e.call e.reply) in
    let now : uplinks_of w (uplinks_after [] (h ++ e ∷ [])) ≡ uplinks_of w (uplinks_after [] h) + uplinks_of w sent =
    ap (uplinks_of w) (uplinks-push [] h e) ∙ count-append (λ (u : answer_uplink.Uplink). same_uplink u.window w) (uplinks_after [] h) sent in
    let closed = closings-added h e (first_of w) in
    let was = bounded w in
    let more = sent-closing h w e.call e.reply in
    omega (arith, now, closed, was, more)

pub uplinks_go_out_once : (net : Network) (h : List Entry) → IsLegal net h → UplinksGoOutOnce h
uplinks_go_out_once net h legal w =
    let bounded = legal_induction net Bounded (λ v. omega arith) (λ g number c ok is. bounded_step g (entry_for net g number c) is) h legal w in
    let once = windows_open_once net h legal in
    let sum = once.closes (first_of w) in
    let most = once.opens (first_of w) in
    omega (arith, bounded, sum, most)
