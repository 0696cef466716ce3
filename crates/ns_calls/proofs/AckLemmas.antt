-- The acknowledgement numbers of a session in a legal history.
use Rattle.std.proofs.Common.{◌≡◌, ℕ, ◌+◌, ◌^◌, Bool, true, false, ◌==◌, ◌&&◌, cond, List, [], ◌∷◌, ◌++◌, filter, filter_map, nat_lt, Option, None, Some, IfSome, option_map, option_to_list, unwrap_or, refl, sym, ap, subst, ◌∙◌, arith, inl, inr}
use Rattle.std.proofs.lemmas.List.{append-nil}
use Rattle.std.proofs.lemmas.List.Elements.{filter-append, filter_map-append}
use Rattle.std.proofs.lemmas.Bool.{eqb-true, cond_both}
use Rattle.ns_types.specs.declared.identity.DevEui.{DevEui}
use Rattle.ns_types.specs.declared.identity.WindowName.{WindowName}
use Rattle.ns_types.specs.Identity.{same_window}
use Rattle.ns_types.specs.Cases.{first_case}
use Rattle.ns_views.specs.Frame.{is_confirmed}
use Rattle.ns_secure.specs.Counter.{Exceeds}
use Rattle.ns_roster.specs.Network.{Network}
use Rattle.ns_calls.specs.declared.call.Call.{Call}
use Rattle.ns_calls.specs.declared.call.Call.TheVariants as call
use Rattle.ns_calls.specs.declared.call.Reply.TheVariants as reply
use Rattle.ns_calls.specs.declared.call.Entry.{Entry}
use Rattle.ns_calls.specs.Queries.{maximum}
use Rattle.ns_calls.specs.Entries.{Opening, Closing, same_device, open_windows, closed}
use Rattle.ns_calls.proofs.Says.{closing_in, uplink-says, join-says, answer-says}
use Rattle.ns_calls.specs.History.{closings, session_acks, greatest_ack, next_ack, next_ack_number, open_window, is_live}
use Rattle.ns_calls.specs.Reply.{ack_number, reply_to}
use Rattle.ns_calls.specs.Legal.{IsLegal, entry_for, with_call}
use Rattle.ns_calls.specs.Laws.{Rises}
use Rattle.ns_calls.specs.Headline.{AcksRise}
use Rattle.ns_calls.proofs.Lists.{one_more, said-adds, find-passes, Exceeds-each, Rises-push, at_some}
use Rattle.ns_calls.proofs.Induction.{legal_induction}
use Rattle.ns_calls.proofs.JoinLemmas.{same_device-eq}
use Rattle.ns_calls.proofs.NameLemmas.{same_window-eq}

-- ---- the number of a closing

-- the number, if any, is the next of the session
abbrev IsNextAck : List Entry → WindowName → Option ℕ → Type 0
IsNextAck h w ack = IfSome ack (λ n. n ≡ next_ack h w.eui w.session)

numbered : (h : List Entry) (eui : DevEui) (session : ℕ) → IfSome (next_ack_number h eui session) (λ n. n ≡ next_ack h eui session)
numbered h eui session =
    let n : ℕ = next_ack h eui session in
    cond_both (nat_lt n (2 ^ 32)) (Some n) None (λ o. IfSome o (λ m. m ≡ n)) (λ _. refl) (λ _. tt)

ack-next : (h : List Entry) (w : WindowName) (o : Opening) → same_window o.window w ≡ true → IsNextAck h w (ack_number h o)
ack-next h w o same =
    let is : o.window ≡ w = same_window-eq o.window w same in
    let eui : o.window.eui ≡ w.eui = ap (λ (v : WindowName). v.eui) is in
    let session : o.window.session ≡ w.session = ap (λ (v : WindowName). v.session) is in
    let number : Option ℕ = next_ack_number h o.window.eui o.window.session in
    let next : IfSome number (λ n. n ≡ next_ack h w.eui w.session) =
    subst (λ (d : DevEui). IfSome number (λ n. n ≡ next_ack h d w.session)) eui (subst (λ s. IfSome number (λ n. n ≡ next_ack h o.window.eui s)) session (numbered h o.window.eui o.window.session)) in
    cond_both (is_confirmed o.frame && is_live h o.window.eui o.window.session) number None (λ p. IfSome p (λ n. n ≡ next_ack h w.eui w.session)) (λ _. next) (λ _. tt)

closing-new : (net : Network) (h : List Entry) (c : Call) → IfSome (closing_in c (reply_to net h c)) (λ x. IsNextAck h x.window x.ack)
closing-new net h (call.Uplink frame heard) = uplink-says (λ s. IfSome (closed s) (λ x. IsNextAck h x.window x.ack)) frame heard (λ w. tt) (λ w. tt) (λ w. tt) tt (reply_to net h (call.Uplink frame heard))
closing-new net h (call.Join t heard) = join-says (λ s. IfSome (closed s) (λ x. IsNextAck h x.window x.ack)) t heard tt tt tt (reply_to net h (call.Join t heard))
closing-new net h (call.JoinReply t o) = answer-says (λ s. IfSome (closed s) (λ x. IsNextAck h x.window x.ack)) t o (λ n. tt) tt tt (reply_to net h (call.JoinReply t o))
closing-new net h (call.Close w) = by (open_window h w) (find-passes (λ o. same_window o.window w) (open_windows h))
  where
    by : (found : Option Opening) → IfSome found (λ o. same_window o.window w ≡ true) →
        IfSome (closing_in (call.Close w) (first_case (option_map (λ o. reply.Closed w (ack_number h o)) found ∷ []) reply.NoWindow)) (λ x. IsNextAck h x.window x.ack)
    by None same = tt
    by (Some o) same = ack-next h w o same

-- ---- numbers rise

next-exceeds : (h : List Entry) (eui : DevEui) (session : ℕ) → Exceeds (greatest_ack h eui session) (next_ack h eui session)
next-exceeds h eui session =
    elim (greatest_ack h eui session) as (λ greatest. Exceeds greatest (unwrap_or (option_map (λ n. n + 1) greatest) 0)) [ None ↦ tt | Some n ↦ omega arith ]

more_acks : (acks : List ℕ) (next : ℕ) (ack : Option ℕ) → Rises acks → Exceeds (maximum acks) next → IfSome ack (λ n. n ≡ next) → Rises (acks ++ option_to_list ack)
more_acks acks next None rises exceeds is = rw append-nil rises
more_acks acks next (Some n) rises exceeds is = Rises-push acks n rises (Exceeds-each acks n (rw is exceeds))

one_ack : (in_session : Bool) (x : Closing) → filter_map (λ (c : Closing). c.ack) (cond {A = List Closing} in_session (x ∷ []) []) ≡ option_to_list (cond in_session x.ack None)
one_ack true x = one_more (λ (c : Closing). c.ack) x
one_ack false x = refl

-- the next number of a window's session is that of the session, where the window is the device's and of the session
of_session : (h : List Entry) (x : Closing) (eui : DevEui) (session : ℕ) → same_device x.window.eui eui ≡ true → IsNextAck h x.window x.ack → (x.window.session == session) ≡ true →
    IfSome x.ack (λ n. n ≡ next_ack h eui session)
of_session h x eui session device next here =
    subst (λ s. IfSome x.ack (λ n. n ≡ next_ack h eui s)) (eqb-true x.window.session session here)
    (subst (λ (d : DevEui). IfSome x.ack (λ n. n ≡ next_ack h d x.window.session)) (same_device-eq x.window.eui eui device) next)

acks_step : (net : Network) (h : List Entry) (number : ℕ) (c : Call) → AcksRise h → AcksRise (with_call net h number c)
acks_step net h number c rises eui session =
    let here : Closing → Bool = λ x. x.window.session == session in
    let acks : List Closing → List ℕ = λ xs. filter_map (λ (x : Closing). x.ack) (filter here xs) in
    elim (said-adds (λ (x : Entry). closing_in x.call x.reply) (λ (x : Closing). same_device x.window.eui eui) h (entry_for net h number c)) [
      | inl same ↦ subst (λ xs. Rises (acks xs)) (sym same) (rises eui session)
      | inr one ↦
          (let x : Closing = one.thing in
          let new : IsNextAck h x.window x.ack = at_some (λ y. IsNextAck h y.window y.ack) (closing_in c (reply_to net h c)) x one.says (closing-new net h c) in
          let split : acks (closings h eui ++ x ∷ []) ≡ session_acks h eui session ++ option_to_list (cond (here x) x.ack None) =
          ap (filter_map (λ (y : Closing). y.ack)) (filter-append here (closings h eui) (x ∷ [])) ∙ (filter_map-append (λ (y : Closing). y.ack) (filter here (closings h eui)) (cond (here x) (x ∷ []) []) ∙ ap (λ ys. session_acks h eui session ++ ys) (one_ack (here x) x)) in
          let next : IfSome (cond (here x) x.ack None) (λ n. n ≡ next_ack h eui session) =
          cond_both (here x) x.ack None (λ o. IfSome o (λ n. n ≡ next_ack h eui session)) (λ is_here. of_session h x eui session one.asked new is_here) (λ _. tt) in
          subst Rises (sym (ap acks one.joined ∙ split)) (more_acks (session_acks h eui session) (next_ack h eui session) _ (rises eui session) (next-exceeds h eui session) next))
    ]

pub acks_rise : (net : Network) (h : List Entry) → IsLegal net h → AcksRise h
acks_rise net h legal = legal_induction net AcksRise (λ eui session. tt) (λ g number c ok rises. acks_step net g number c rises) h legal
