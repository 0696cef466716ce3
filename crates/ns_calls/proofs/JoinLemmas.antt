-- The joins that a legal history accepts.
use Rattle.std.proofs.Common.{◌≡◌, ◌⊎◌, ℕ, ◌+◌, ◌<◌, ◌≤◌, Bool, true, false, not, length, nat_lt, List, [], ◌∷◌, ◌++◌, map, nat_le, unwrap_or, Option, None, Some, option_map, refl, sym, ap, subst, ◌∙◌, arith, inl, inr}
use Rattle.std.proofs.lemmas.Bool.{cond_both, ltb-true, leb-false, eqb-true}
use Rattle.std.specs.List.{AllByRecursion}
use Rattle.std.proofs.lemmas.List.{map-append}
use Rattle.std.proofs.lemmas.Option.{none-some, same_Some}
use Rattle.std.proofs.lemmas.Bool.Decides.{nat_tests}
use Rattle.ns_types.specs.declared.identity.DevEui.{DevEui}
use Rattle.ns_types.specs.declared.identity.DevAddr.{DevAddr}
use Rattle.ns_types.specs.declared.ticket.Ticket.{Ticket}
use Rattle.ns_types.specs.Cases.{first_case, when}
use Rattle.ns_types.specs.Ticket.{dev_eui, join_eui, nonce}
use Rattle.ns_secure.specs.Counter.{Exceeds}
use Rattle.ns_roster.specs.Network.{Network, is_known}
use Rattle.ns_calls.specs.declared.call.JoinAns.{JoinAns}
use Rattle.ns_calls.specs.declared.call.Outcome.{Outcome}
use Rattle.ns_calls.specs.declared.call.Outcome.TheVariants as outcome
use Rattle.ns_calls.specs.declared.call.Call.{Call}
use Rattle.ns_calls.specs.declared.call.Call.TheVariants as call
use Rattle.ns_calls.specs.declared.call.Reply.{Reply}
use Rattle.ns_calls.specs.declared.call.Reply.TheVariants as reply
use Rattle.ns_calls.specs.declared.call.Entry.{Entry}
use Rattle.ns_calls.specs.Queries.{maximum, greater}
use Rattle.ns_calls.specs.Entries.{Acceptance, acceptances, same_device, most_copies, accepted}
use Rattle.ns_calls.proofs.Says.{acceptance_in, uplink-says, join-says, close-says}
use Rattle.ns_calls.specs.History.{last_nonce, greatest_nonce, next_session, is_ticket_open, ticket_count, ticket_copies}
use Rattle.ns_calls.specs.Reply.{most_tickets, at_or_above, join_copy_reply, reply_to_join, reply_to, is_failed, address}
use Rattle.ns_calls.specs.Legal.{IsLegal, entry_for, with_call}
use Rattle.ns_calls.specs.Laws.{Rises, NoncesRise, nonces_of}
use Rattle.ns_calls.specs.Headline.{nonces_up_to, SessionsAreBounded, Reaches, NoncesAreWithin, AreBelow, nonce_at_or_above}
use Rattle.ns_calls.proofs.Lists.{AddsOne, said-adds, All-push, Exceeds-greater, Exceeds-each, Rises-push, All-weaker}
use Rattle.ns_calls.proofs.QueryLemmas.{greater-assoc, maximum-push}
use Rattle.ns_calls.proofs.Induction.{legal_induction}

-- ---- the reply to a Join-Request by its cases

-- what is to be shown of each reply
pub record JoinCases (P : Reply → Type 0) (net : Network) (h : List Entry) (t : Ticket) : Type 0 where
  pub unknown : is_known net (dev_eui t) (join_eui t) ≡ false → P reply.NoDevice
  pub old : is_known net (dev_eui t) (join_eui t) ≡ true → (greatest : ℕ) → P (reply.NonceOld (record { 0 = greatest }))
  pub copied : is_known net (dev_eui t) (join_eui t) ≡ true → length (ticket_copies h t) < most_copies → P (reply.JoinCopied (length (ticket_copies h t) + 1))
  pub crowded : P reply.JoinCrowded
  pub busy : P reply.JoinBusy
  pub ask : is_known net (dev_eui t) (join_eui t) ≡ true → is_ticket_open h t ≡ false → ticket_count h (dev_eui t) < most_tickets → P (reply.Ask t)

pub join-has : (P : Reply → Type 0) (net : Network) (h : List Entry) (t : Ticket) → JoinCases P net h t → P (reply_to_join net h t)
join-has P net h t cases = step (is_known net (dev_eui t) (join_eui t)) (nonce_at_or_above net h t) (is_ticket_open h t) (nat_le most_tickets (ticket_count h (dev_eui t))) refl refl refl
  where
    copies : ℕ
    copies = length (ticket_copies h t)

    step : (known : Bool) (stale : Option ℕ) (is_open busy : Bool) → is_known net (dev_eui t) (join_eui t) ≡ known → is_ticket_open h t ≡ is_open → nat_le most_tickets (ticket_count h (dev_eui t)) ≡ busy →
        P (first_case (when (not known) reply.NoDevice ∷ option_map (λ g. reply.NonceOld (record { 0 = g })) stale ∷ option_map join_copy_reply (when is_open (length (ticket_copies h t))) ∷ when busy reply.JoinBusy ∷ []) (reply.Ask t))
    step false stale is_open busy known opens full = cases.unknown known
    step true (Some g) is_open busy known opens full = cases.old known g
    step true None true busy known opens full =
        cond_both (nat_lt copies most_copies) (reply.JoinCopied (copies + 1)) reply.JoinCrowded P (λ room. cases.copied known (ltb-true copies most_copies room)) (λ _. cases.crowded)
    step true None false true known opens full = cases.busy
    step true None false false known opens full = cases.ask known opens (grind (arith, nat_tests, full))

-- ---- the answer to a join

-- the reply to the answer to a join, by what is asked of the history
abbrev pub join_reply_by : Bool → Bool → Option ℕ → Reply → Reply
join_reply_by is_open failed stale accepted = first_case (
    when (not is_open) reply.NoTicket
    ∷ when failed reply.JoinRefused
    ∷ option_map (λ g. reply.JoinStale (record { 0 = g })) stale
    ∷ []) accepted

abbrev acceptance_of : Ticket → ℕ → JoinAns → Acceptance
acceptance_of t session join = record { eui = dev_eui t; session = session; ticket = t; join_ans = join }

-- what is accepted is the answer to an open ticket whose nonce isn't stale
pub accepted-cases : (t : Ticket) (o : Outcome) (is_open : Bool) (stale : Option ℕ) (eui : DevEui) (session : ℕ) (addr : DevAddr) →
    let said_by : Option Acceptance = acceptance_in (call.JoinReply t o) (join_reply_by is_open (is_failed o) stale (reply.Accepted eui session addr)) in
    (said_by ≡ None) ⊎ ((join : JoinAns) × (o ≡ outcome.Success join) × (is_open ≡ true) × (stale ≡ None) × (said_by ≡ Some (acceptance_of t session join)))
accepted-cases t outcome.Failed true stale eui session addr = inl refl
accepted-cases t outcome.Failed false stale eui session addr = inl refl
accepted-cases t (outcome.Success join) true None eui session addr = inr (join, refl, refl, refl, refl)
accepted-cases t (outcome.Success join) true (Some g) eui session addr = inl refl
accepted-cases t (outcome.Success join) false stale eui session addr = inl refl

-- a number that the greatest is not at or above is above the greatest
pub exceeds_all : (greatest : Option ℕ) (n : ℕ) → at_or_above greatest n ≡ None → Exceeds greatest n
exceeds_all None n is = tt
exceeds_all (Some g) n is = (cond_both (nat_le n g) (Some g) None (λ o. o ≡ None → g < n) (λ _ none. absurd (cc none)) (λ tells _. leb-false n g tells)) is

-- what a call adds to the joins accepted of a device: nothing, or the join of its next session with a greater nonce
pub record NewAcceptance (net : Network) (h : List Entry) (eui : DevEui) (now : List Acceptance) : Type 0 where
  pub a : Acceptance
  pub joined : now ≡ acceptances h eui ++ a ∷ []
  pub device : same_device a.eui eui ≡ true
  pub session : a.session ≡ next_session h eui
  pub nonce_above : Exceeds (greatest_nonce net h eui) (nonce a.ticket).0

pub same_device-eq : (d e : DevEui) → same_device d e ≡ true → d ≡ e
same_device-eq d e is = ap (λ (n : ℕ). let x : DevEui = record { 0 = n } in x) (eqb-true d.0 e.0 is)

pub acceptances-cases : (net : Network) (h : List Entry) (number : ℕ) (c : Call) (eui : DevEui) →
    let now : List Acceptance = acceptances (with_call net h number c) eui in
    (now ≡ acceptances h eui) ⊎ NewAcceptance net h eui now
acceptances-cases net h number c eui =
    elim (said-adds (λ (x : Entry). acceptance_in x.call x.reply) (λ (a : Acceptance). same_device a.eui eui) h (entry_for net h number c)) [
      | inl same ↦ inl same
      | inr one ↦ inr (new c one)
    ]
  where
    new : (d : Call) →
        let x : Entry = entry_for net h number d in
        let test : Acceptance → Bool = λ a. same_device a.eui eui in
        let tells : Entry → Option Acceptance = λ y. acceptance_in y.call y.reply in
        AddsOne tells test h x → NewAcceptance net h eui (acceptances (with_call net h number d) eui)
    new (call.Uplink frame heard) one = absurd (none-some one.thing (sym (uplink-says (λ s. accepted s ≡ None) frame heard (λ w. refl) (λ w. refl) (λ w. refl) refl (reply_to net h (call.Uplink frame heard))) ∙ one.says))
    new (call.Join t heard) one = absurd (none-some one.thing (sym (join-says (λ s. accepted s ≡ None) t heard refl refl refl (reply_to net h (call.Join t heard))) ∙ one.says))
    new (call.Close w) one = absurd (none-some one.thing (sym (close-says (λ s. accepted s ≡ None) w (λ ack. refl) refl (reply_to net h (call.Close w))) ∙ one.says))
    new (call.JoinReply t o) one =
        elim (accepted-cases t o (is_ticket_open h t) (nonce_at_or_above net h t) (dev_eui t) (next_session h (dev_eui t)) (address net (dev_eui t))) [
          | inl none ↦ absurd (none-some one.thing (sym none ∙ one.says))
          | inr found ↦
              (let here : acceptance_of t (next_session h (dev_eui t)) found.0 ≡ one.thing = same_Some _ one.thing (sym found.4 ∙ one.says) in
              let ticket_is : t ≡ one.thing.ticket = ap (λ (a : Acceptance). a.ticket) here in
              let device_is : dev_eui t ≡ eui = ap (λ (a : Acceptance). a.eui) here ∙ same_device-eq one.thing.eui eui one.asked in
              let above : Exceeds (greatest_nonce net h (dev_eui t)) (nonce t).0 = exceeds_all (greatest_nonce net h (dev_eui t)) (nonce t).0 found.3 in
              record {
                a = one.thing;
                joined = one.joined;
                device = one.asked;
                session = sym (ap (λ (a : Acceptance). a.session) here) ∙ ap (next_session h) device_is;
                nonce_above = subst (λ (d : DevEui). Exceeds (greatest_nonce net h d) (nonce one.thing.ticket).0) device_is (subst (λ (u : Ticket). Exceeds (greatest_nonce net h (dev_eui t)) (nonce u).0) ticket_is above);
              })
        ]

-- what holds of a device's joins and stays with the join of its next session holds after each call
acceptances-hold : (net : Network) (h : List Entry) (number : ℕ) (c : Call) (eui : DevEui) (Holds : List Acceptance → Type 0) → Holds (acceptances h eui)
    → ((a : Acceptance) → a.session ≡ next_session h eui → Exceeds (greatest_nonce net h eui) (nonce a.ticket).0 → Holds (acceptances h eui ++ a ∷ [])) → Holds (acceptances (with_call net h number c) eui)
acceptances-hold net h number c eui Holds holds more =
    elim (acceptances-cases net h number c eui) [
      | inl same ↦ subst Holds (sym same) holds
      | inr new ↦ subst Holds (sym new.joined) (more new.a new.session new.nonce_above)
    ]

-- ---- nonces rise

nonces_step : (net : Network) (h : List Entry) (number : ℕ) (c : Call) → NoncesRise h → NoncesRise (with_call net h number c)
nonces_step net h number c rises eui =
    let nonces : List ℕ = nonces_of h eui in
    acceptances-hold net h number c eui (λ joins. Rises (map (λ a. (nonce a.ticket).0) joins)) (rises eui)
    (λ a session above. rw map-append (Rises-push nonces _ (rises eui) (Exceeds-each nonces _ (Exceeds-greater (last_nonce net eui) (maximum nonces) _ above).1)))

pub nonces_rise : (net : Network) (h : List Entry) → IsLegal net h → NoncesRise h
nonces_rise net h legal = legal_induction net NoncesRise (λ eui. tt) (λ g number c ok rises. nonces_step net g number c rises) h legal

-- ---- sessions are bounded

-- the bound, of any two lists of sessions and nonces
bounded_more : (sessions nonces : Option ℕ) (n : ℕ) → unwrap_or sessions 0 + 1 ≤ nonces_up_to nonces + 1 → Exceeds nonces n →
    (unwrap_or (greater sessions (Some (unwrap_or sessions 0 + 1))) 0 + 1 ≤ nonces_up_to (greater nonces (Some n)) + 1) × (unwrap_or sessions 0 + 1 ≤ n + 1)
bounded_more None None n bound above = (omega (arith, bound), omega (arith, bound))
bounded_more None (Some g) n bound above = (omega (arith, bound, above), omega (arith, bound, above))
bounded_more (Some s) None n bound above = (omega (arith, bound), omega (arith, bound))
bounded_more (Some s) (Some g) n bound above = (omega (arith, bound, above), omega (arith, bound, above))

sessions_step : (net : Network) (h : List Entry) (number : ℕ) (c : Call) → SessionsAreBounded net h → SessionsAreBounded net (with_call net h number c)
sessions_step net h number c bounded = record {
  next = λ eui. (each_device eui).0;
  each = λ eui. (each_device eui).1;
}
  where
    each_device : (eui : DevEui) → (next_session (with_call net h number c) eui ≤ nonces_up_to (greatest_nonce net (with_call net h number c) eui) + 1)
        × AllByRecursion (λ a. a.session ≤ (nonce a.ticket).0 + 1) (acceptances (with_call net h number c) eui)
    each_device eui =
        let joins : List Acceptance = acceptances h eui in
        let sessions : List ℕ = map (λ (a : Acceptance). a.session) joins in
        let nonces : List ℕ = map (λ (a : Acceptance). (nonce a.ticket).0) joins in
        let last : Option ℕ = last_nonce net eui in
        acceptances-hold net h number c eui (λ (js : List Acceptance). (unwrap_or (maximum (map (λ (a : Acceptance). a.session) js)) 0 + 1 ≤ nonces_up_to (greater last (maximum (map (λ (a : Acceptance). (nonce a.ticket).0) js))) + 1)
        × AllByRecursion (λ (a : Acceptance). a.session ≤ (nonce a.ticket).0 + 1) js)
        (bounded.next eui, bounded.each eui)
        (λ a session above.
        let more = bounded_more (maximum sessions) (greater last (maximum nonces)) (nonce a.ticket).0 (bounded.next eui) above in
        let top_session : maximum (map (λ (b : Acceptance). b.session) (joins ++ a ∷ [])) ≡ greater (maximum sessions) (Some (next_session h eui)) =
        ap maximum (map-append (λ (b : Acceptance). b.session) joins (a ∷ [])) ∙ (maximum-push sessions a.session ∙ ap (λ s. greater (maximum sessions) (Some s)) session) in
        let top_nonce : greater last (maximum (map (λ (b : Acceptance). (nonce b.ticket).0) (joins ++ a ∷ []))) ≡ greater (greater last (maximum nonces)) (Some (nonce a.ticket).0) =
        ap (greater last) (ap maximum (map-append (λ (b : Acceptance). (nonce b.ticket).0) joins (a ∷ [])) ∙ maximum-push nonces (nonce a.ticket).0) ∙ greater-assoc last (maximum nonces) (Some (nonce a.ticket).0) in
        let here : a.session ≤ (nonce a.ticket).0 + 1 = rw session more.1 in
        (rw (top_session, top_nonce) more.0, All-push (λ (b : Acceptance). b.session ≤ (nonce b.ticket).0 + 1) joins a (bounded.each eui) here))

pub sessions_bounded : (net : Network) (h : List Entry) → IsLegal net h → SessionsAreBounded net h
sessions_bounded net h legal =
    legal_induction net (SessionsAreBounded net) (record { next = λ eui. omega arith; each = λ eui. tt }) (λ g number c ok bounded. sessions_step net g number c bounded) h legal

-- ---- nonces are above the last one that the roster names, and at most the greatest

above_step : (net : Network) (h : List Entry) (number : ℕ) (c : Call) → ((eui : DevEui) → AllByRecursion (λ n. Exceeds (last_nonce net eui) n) (nonces_of h eui))
    → (eui : DevEui) → AllByRecursion (λ n. Exceeds (last_nonce net eui) n) (nonces_of (with_call net h number c) eui)
above_step net h number c above eui =
    let nonces : List ℕ = nonces_of h eui in
    let Above : ℕ → Type 0 = λ n. Exceeds (last_nonce net eui) n in
    acceptances-hold net h number c eui (λ joins. AllByRecursion Above (map (λ a. (nonce a.ticket).0) joins)) (above eui)
    (λ a session exceeds. rw map-append (All-push Above nonces _ (above eui) (Exceeds-greater (last_nonce net eui) (maximum nonces) _ exceeds).0))

reaches_first : (a c : Option ℕ) (m : ℕ) → Reaches (greater (greater a (Some m)) c) m
reaches_first None None m = omega arith
reaches_first None (Some c) m = omega arith
reaches_first (Some a) None m = omega arith
reaches_first (Some a) (Some c) m = omega arith

-- the greatest of a number and a list reaches each of the list
all_reached : (a : Option ℕ) (ns : List ℕ) → AllByRecursion (λ n. Reaches (greater a (maximum ns)) n) ns
all_reached a [] = tt
all_reached a (m ∷ ms) =
    subst (λ (o : Option ℕ). AllByRecursion (λ n. Reaches o n) (m ∷ ms)) (sym (greater-assoc a (Some m) (maximum ms)))
    (reaches_first a (maximum ms) m, all_reached (greater a (Some m)) ms)

pub nonces_within : (net : Network) (h : List Entry) → IsLegal net h → NoncesAreWithin net h
nonces_within net h legal = record {
  above =
      legal_induction net (λ g. (eui : DevEui) → AllByRecursion (λ n. Exceeds (last_nonce net eui) n) (nonces_of g eui)) (λ eui. tt)
      (λ g number c ok above. above_step net g number c above) h legal;
  up_to = λ eui. all_reached (last_nonce net eui) (nonces_of h eui);
}

-- a number that the greatest reaches is below one that exceeds it
pub below : (greatest : Option ℕ) (m n : ℕ) → Reaches greatest m → Exceeds greatest n → m < n
below None m n reaches above = absurd reaches
below (Some g) m n reaches above = omega (arith, reaches, above)

pub later_above : (first second : Network) (before after : List Entry) → IsLegal first before → IsLegal second after → (eui : DevEui) → last_nonce second eui ≡ greatest_nonce first before eui
    → AreBelow (nonces_of before eui) (nonces_of after eui)
later_above first second before after legal later eui same =
    let greatest : Option ℕ = greatest_nonce first before eui in
    let above : AllByRecursion (λ n. Exceeds greatest n) (nonces_of after eui) =
    subst (λ (o : Option ℕ). AllByRecursion (λ n. Exceeds o n) (nonces_of after eui)) same ((nonces_within second after later).above eui) in
    All-weaker (λ (m : ℕ). Reaches greatest m) (λ (m : ℕ). AllByRecursion (λ n. m < n) (nonces_of after eui))
    (λ m reached. All-weaker (λ (n : ℕ). Exceeds greatest n) (λ (n : ℕ). m < n) (λ n exceeds. below greatest m n reached exceeds) (nonces_of after eui) above)
    (nonces_of before eui) ((nonces_within first before legal).up_to eui)
