-- A part of a legal history in which what matters is kept tells the same of what answers rest on.
use Rattle.std.proofs.Common.{◌≡◌, ℕ, ◌==◌, Bool, true, ◌&&◌, List, [], ◌∷◌, ◌++◌, map, find, unwrap_or, ◌+◌, Option, option_map, refl, sym, ap, subst, ◌∙◌, arith, inl, inr}
use Rattle.std.specs.Prelude.{is_some}
use Rattle.std.specs.List.{AllByRecursion, list_any}
use Rattle.std.proofs.lemmas.List.{map-append}
use Rattle.ns_types.specs.declared.identity.DevEui.{DevEui}
use Rattle.ns_types.specs.declared.identity.WindowName.{WindowName}
use Rattle.ns_types.specs.Identity.{same_window}
use Rattle.ns_types.specs.Ticket.{nonce}
use Rattle.ns_roster.specs.Network.{Network}
use Rattle.ns_calls.specs.declared.call.Call.{Call}
use Rattle.ns_calls.specs.declared.call.Entry.{Entry}
use Rattle.ns_calls.specs.Queries.{last, greater, maximum}
use Rattle.ns_calls.specs.Entries.{Acceptance, Opening, same_device, acceptances, openings, open_windows}
use Rattle.ns_calls.specs.History.{first_and_other, first_window, session_join, session_acks, open_window, window_copies, open_tickets, last_nonce, rounds}
use Rattle.ns_calls.specs.Legal.{IsLegal, with_call}
use Rattle.ns_calls.specs.Laws.{Rises}
use Rattle.ns_calls.proofs.Lists.{All-weaker, Exceeds-each, Rises-push}
use Rattle.ns_calls.proofs.Induction.{legal_induction}
use Rattle.ns_calls.proofs.JoinLemmas.{acceptances-cases, nonces_rise}
use Rattle.ns_calls.proofs.AckLemmas.{acks_rise}
use Rattle.ns_calls.proofs.NameLemmas.{same_window-refl}
use Rattle.ns_secure.specs.Counter.{Exceeds}
use Rattle.ns_kept.specs.Kept.{is_kept, with_closings}
use Rattle.ns_kept.proofs.Within.{Within, Adds-map, last-within, maximum-within, find-any, each-found}
use Rattle.ns_kept.proofs.Asked.{acceptances-adds, openings-adds, acks-adds, rounds-adds}
use Rattle.ns_kept.proofs.Dropped.{has_window, idle-map, acceptances-idle, openings-idle, acks-idle, session_join-within, window_copies-within, ticket_copies-within, same_device-refl}
use Rattle.ns_kept.proofs.RoundsKept.{counters-within, rounds-within, session_round-same}
use Rattle.ns_kept.proofs.ReadLemmas.{acceptances-with_closings, counters-with_closings, window_copies-with_closings, open_tickets-with_closings, ticket_copies-with_closings, with_closings-adds}
use Rattle.ns_kept.proofs.Alike.{Alike}
use Rattle.ns_calls.proofs.KeyLemmas.{below_next}
use Rattle.std.proofs.lemmas.Bool.{and_from, eq-eqb}

-- ---- the sessions of a device rise

abbrev sessions_of : List Acceptance → List ℕ
sessions_of joins = map (λ a. a.session) joins

pub sessions_rise : (net : Network) (h : List Entry) → IsLegal net h → (eui : DevEui) → Rises (map (λ a. a.session) (acceptances h eui))
sessions_rise net h legal =
    legal_induction net (λ g. (eui : DevEui) → Rises (sessions_of (acceptances g eui))) (λ eui. tt) step h legal
  where
    step : (g : List Entry) (number : ℕ) (c : Call) → IsLegal net g → ((eui : DevEui) → Rises (sessions_of (acceptances g eui))) → (eui : DevEui) → Rises (sessions_of (acceptances (with_call net g number c) eui))
    step g number c ok rises eui =
        elim (acceptances-cases net g number c eui) [
          | inl same ↦ subst (λ joins. Rises (sessions_of joins)) (sym same) (rises eui)
          | inr new ↦
              (let sessions : List ℕ = sessions_of (acceptances g eui) in
              let above : Exceeds (maximum sessions) new.a.session = subst (Exceeds (maximum sessions)) (sym new.session) (below_next (maximum sessions)) in
              let more : Rises (sessions ++ new.a.session ∷ []) = Rises-push sessions new.a.session (rises eui) (Exceeds-each sessions _ above) in
              subst (λ joins. Rises (sessions_of joins)) (sym new.joined) (rw map-append more))
        ]

-- ---- each open window is found, and is one of its session's

pub found-member : (os : List Opening) → AllByRecursion (λ o. is_some (find (λ (p : Opening). same_window p.window o.window) os) ≡ true) os
found-member os =
    All-weaker (λ (o : Opening). list_any (λ (p : Opening). same_window p.window o.window) os ≡ true) (λ (o : Opening). is_some (find (λ (p : Opening). same_window p.window o.window) os) ≡ true)
    (λ o there. find-any (λ (p : Opening). same_window p.window o.window) os ∙ there) os (each-found (λ (o p : Opening). same_window p.window o.window) (λ o. same_window-refl o.window) os)

abbrev pub of_session : DevEui → ℕ → Opening → Bool
of_session eui session o = same_device o.window.eui eui && (o.window.session == session)

pub session-member : (os : List Opening) → AllByRecursion (λ o. list_any (of_session o.window.eui o.window.session) os ≡ true) os
session-member os =
    each-found (λ (o p : Opening). of_session o.window.eui o.window.session p) (λ o. and_from _ _ (same_device-refl o.window.eui) (eq-eqb o.window.session o.window.session refl)) os

-- ---- what is told

abbrev live_by : Option Opening → Option Acceptance → List ℕ
live_by opened joined = first_and_other (option_map (λ o. o.window.session) opened) (option_map (λ a. a.session) joined)

pub alike-within : (net : Network) (h : List Entry) → IsLegal net h → (mark : ℕ) (names : List WindowName) (ks : List Entry) → Within (is_kept h) ks h →
    open_windows (with_closings mark names ks) ≡ open_windows h → open_tickets ks ≡ open_tickets h → Alike net (with_closings mark names ks) h
alike-within net h legal mark names ks within windows tickets =
    let joined = λ (eui : DevEui). acceptances-with_closings mark names ks eui in
    let opened = λ (eui : DevEui). with_closings-adds (λ es. openings es eui) (openings-adds eui) (λ number w. refl) mark names ks in
    let join_of = λ (joins : List Acceptance) (session : ℕ). option_map (λ (a : Acceptance). a.join_ans) (find (λ (a : Acceptance). a.session == session) joins) in
    record {
      windows = windows;
      copies = All-weaker (λ (o : Opening). is_some (open_window h o.window) ≡ true) (λ (o : Opening). window_copies (with_closings mark names ks) o.window ≡ window_copies h o.window)
          (λ o opens. window_copies-with_closings mark names ks o.window ∙ window_copies-within h o.window opens ks h within) (open_windows h) (found-member (open_windows h));
      window_joins = All-weaker (λ (o : Opening). has_window h o.window.eui o.window.session ≡ true) (λ (o : Opening). session_join (with_closings mark names ks) o.window.eui o.window.session ≡ session_join h o.window.eui o.window.session)
          (λ o opens. ap (λ joins. join_of joins o.window.session) (joined o.window.eui) ∙ session_join-within h o.window.eui o.window.session (inr opens) ks h within) (open_windows h) (session-member (open_windows h));
      tickets = open_tickets-with_closings mark names ks ∙ tickets;
      copies_of_tickets = λ t opens. ticket_copies-with_closings mark names ks t ∙ ticket_copies-within h t opens ks h within;
      nonces = λ eui.
          ap (greater (last_nonce net eui)) (
          ap (λ (joins : List Acceptance). maximum (map (λ (a : Acceptance). (nonce a.ticket).0) joins)) (joined eui)
          ∙ maximum-within (is_kept h) (λ es. map (λ (a : Acceptance). (nonce a.ticket).0) (acceptances es eui)) (Adds-map (λ (a : Acceptance). (nonce a.ticket).0) _ (acceptances-adds eui))
          (idle-map (λ (a : Acceptance). (nonce a.ticket).0) (is_kept h) (λ es. acceptances es eui) (acceptances-idle h eui)) ks h within (nonces_rise net h legal eui)
          );
      next = λ eui.
          ap (λ (joins : List Acceptance). unwrap_or (maximum (sessions_of joins)) 0 + 1) (joined eui)
          ∙ ap (λ o. unwrap_or o 0 + 1)
          (maximum-within (is_kept h) (λ es. sessions_of (acceptances es eui)) (Adds-map (λ (a : Acceptance). a.session) _ (acceptances-adds eui))
          (idle-map (λ (a : Acceptance). a.session) (is_kept h) (λ es. acceptances es eui) (acceptances-idle h eui)) ks h within (sessions_rise net h legal eui));
      lives = λ eui.
          ap (λ (os : List Opening). live_by (last os) (last (acceptances (with_closings mark names ks) eui))) (opened eui)
          ∙ (ap (λ (joins : List Acceptance). live_by (last (openings ks eui)) (last joins)) (joined eui)
          ∙ (ap (λ o. live_by o (last (acceptances ks eui))) (last-within (is_kept h) (λ es. openings es eui) (openings-adds eui) (openings-idle h eui) ks h within)
          ∙ ap (λ a. live_by (last (openings h eui)) a) (last-within (is_kept h) (λ es. acceptances es eui) (acceptances-adds eui) (acceptances-idle h eui) ks h within)));
      joins = λ eui session lives. ap (λ joins. join_of joins session) (joined eui) ∙ session_join-within h eui session (inl lives) ks h within;
      counters = λ eui session lives.
          ap maximum (counters-with_closings mark names ks eui session)
          ∙ counters-within net h legal eui session lives ks within;
      rounds = λ eui session lives.
          session_round-same (with_closings mark names ks) h eui session
          (ap maximum (counters-with_closings mark names ks eui session) ∙ counters-within net h legal eui session lives ks within)
          (λ n greatest. ap maximum (with_closings-adds (λ es. rounds es (first_window eui session n)) (rounds-adds (first_window eui session n)) (λ number w. refl) mark names ks) ∙ rounds-within net h legal eui session n lives greatest ks within);
      acks = λ eui session lives.
          ap maximum (with_closings-adds (λ es. session_acks es eui session) (acks-adds eui session) (λ number w. grind arith) mark names ks)
          ∙ maximum-within (is_kept h) (λ es. session_acks es eui session) (acks-adds eui session) (acks-idle h eui session lives) ks h within (acks_rise net h legal eui session);
    }
