-- Answers of join servers agree with the history.
use Rattle.std.proofs.Common.{◌≡◌, ◌⊎◌, ℕ, ◌+◌, ◌==◌, Bool, true, false, not, cond, List, [], ◌∷◌, ◌++◌, filter, map, unwrap_or, Option, None, Some, IfSome, option_map, refl, sym, ap, ◌∙◌, arith, filter_map}
use Rattle.std.specs.Prelude.{IsSome, is_some}
use Rattle.std.specs.List.{list_any}
use Rattle.std.specs.Option.{option_and_then}
use Rattle.std.proofs.lemmas.List.{append-nil, map-append}
use Rattle.std.proofs.lemmas.Bool.{false≢true}
use Rattle.std.proofs.lemmas.Bool.Decides.{nat_tests}
use Rattle.ns_types.specs.declared.identity.DevEui.{DevEui}
use Rattle.ns_types.specs.declared.heard.Heard.{Heard}
use Rattle.ns_types.specs.declared.ticket.Ticket.{Ticket}
use Rattle.ns_types.specs.Cases.{first_case, when}
use Rattle.ns_types.specs.Heard.{best}
use Rattle.ns_types.specs.Ticket.{dev_eui, nonce}
use Rattle.ns_secure.specs.Counter.{Exceeds}
use Rattle.ns_roster.specs.Network.{Network}
use Rattle.ns_calls.specs.declared.call.JoinAns.{JoinAns}
use Rattle.ns_calls.specs.declared.call.Outcome.{Outcome}
use Rattle.ns_calls.specs.declared.call.Outcome.TheVariants as outcome
use Rattle.ns_calls.specs.declared.call.Call.TheVariants as call
use Rattle.ns_calls.specs.declared.call.Reply.TheVariants as reply
use Rattle.ns_calls.specs.declared.call.Entry.{Entry}
use Rattle.ns_calls.specs.Queries.{greater, maximum}
use Rattle.ns_calls.specs.Entries.{Acceptance, Opening, Closing, acceptances, openings, same_device}
use Rattle.ns_calls.specs.History.{asks_for, open_tickets, is_ticket_open, ticket_copies, greatest_nonce, next_session, session_join, closings, last_nonce, first_and_other}
use Rattle.ns_calls.specs.Headline.{session_round, nonce_at_or_above}
use Rattle.ns_calls.specs.Reply.{is_failed, reply_to_join_reply}
use Rattle.ns_calls.specs.Legal.{IsLegal, entry_of}
use Rattle.ns_calls.proofs.Lists.{last-has}
use Rattle.ns_calls.proofs.QueryLemmas.{last-push, maximum-push, greater-assoc}
use Rattle.ns_calls.proofs.PushLemmas.{acceptances-push, openings-push, closings-push}
use Rattle.ns_calls.proofs.KeyLemmas.{session_join-next}
use Rattle.ns_sessions.specs.declared.ticket.OpenTicket.{OpenTicket}
use Rattle.ns_sessions.specs.declared.decision.AnswerDecision.{AnswerDecision}
use Rattle.ns_sessions.specs.declared.decision.AnswerDecision.TheVariants as answer
use Rattle.ns_sessions.specs.Record.{answer_decision_of, device_record, ticket_record, ticket_in, answer_decision, with_reply, without, new_session}
use Rattle.ns_calls.proofs.JoinLemmas.{exceeds_all}
use Rattle.ns_sessions.specs.Laws.{answer_decision_reply, AnswersAgree}
use Rattle.ns_sessions.proofs.Rounds.{rounds-stay}
use Rattle.ns_sessions.proofs.Sessions.{counter_by, session_by, active_by, newest_by, sessions_by, join-push}
use Rattle.ns_sessions.proofs.SessionSteps.{Counts, joined}
use Rattle.ns_sessions.proofs.Facts.{SessionFacts, session_facts, none_of_session}
use Rattle.ns_sessions.proofs.Records.{tickets_said, record_said, one_added, sessions_keep}
use Rattle.ns_sessions.proofs.OpenTickets.{open_asked, at_member, asked_copies, same_device-refl}
use Rattle.ns_sessions.proofs.JoinSteps.{tickets_ended, without_absent}
use Rattle.ns_sessions.proofs.Joins.{said_of, ticket_said}
use Rattle.ns_sessions.proofs.Uplinks.{record_stays}
use Rattle.ns_sessions.proofs.Basics.{exceeds_greater}

-- ---- replies

-- the decision, by what is asked of the state
abbrev pub answer_decision_by : Ticket → Option OpenTicket → Bool → Option ℕ → ℕ → AnswerDecision
answer_decision_by t found failed stale next = answer_decision_of (
    first_case (when (not (is_some found)) reply.NoTicket ∷ when failed reply.JoinRefused ∷ option_map (λ g. reply.JoinStale (record { 0 = g })) stale ∷ []) (reply.Accepted (dev_eui t) next (record { 0 = 0 }))
    ) (option_and_then (λ (o : OpenTicket). o.copies.best) found)

decision_said : (net : Network) (h : List Entry) (t : Ticket) (outcome : Outcome) →
    answer_decision (device_record net h (dev_eui t)) t outcome ≡ answer_decision_by t (cond (is_ticket_open h t) (Some (ticket_record h t)) None) (is_failed outcome) (nonce_at_or_above net h t) (next_session h (dev_eui t))
decision_said net h t outcome =
    ap (λ r. answer_decision r t outcome) (record_said net h (dev_eui t)) ∙ ap (λ o. answer_decision_by t o (is_failed outcome) (nonce_at_or_above net h t) (next_session h (dev_eui t))) (ticket_said net h t)

-- an open ticket has a best copy
open_best : (h : List Entry) (t : Ticket) → is_ticket_open h t ≡ true → is_some (best (ticket_copies h t)) ≡ true
open_best h t is = asked_copies h t (at_member (λ u. list_any (asks_for u) h ≡ true) t (open_tickets h) is (open_asked h))

answer_replies : (net : Network) (h : List Entry) (t : Ticket) (outcome : Outcome) → answer_decision_reply net t (answer_decision (device_record net h (dev_eui t)) t outcome) ≡ reply_to_join_reply net h t outcome
answer_replies net h t outcome = rw (decision_said net h t outcome) (grind (arith, open_best h t))

-- what is accepted has the best copy
accepted_best : (net : Network) (h : List Entry) (t : Ticket) (outcome : Outcome) (session : ℕ) (heard : Heard) →
    answer_decision (device_record net h (dev_eui t)) t outcome ≡ answer.Accepted session heard → best (ticket_copies h t) ≡ Some heard
accepted_best net h t outcome session heard is = (let said = rw (decision_said net h t outcome) at is in grind (arith, said))

-- ---- what a decision is

-- what holds where the decision is this one
abbrev DecisionFits : Network → List Entry → Ticket → Outcome → AnswerDecision → Type 0
DecisionFits net h t outcome answer.NoTicket = is_ticket_open h t ≡ false
DecisionFits net h t outcome (answer.Accepted session heard) = (is_failed outcome ≡ false) × (session ≡ next_session h (dev_eui t)) × Exceeds (greatest_nonce net h (dev_eui t)) (nonce t).0
DecisionFits net h t outcome _ = Unit {0}

decision_fits : (net : Network) (h : List Entry) (t : Ticket) (outcome : Outcome) → DecisionFits net h t outcome (answer_decision (device_record net h (dev_eui t)) t outcome)
decision_fits net h t outcome = rw (decision_said net h t outcome) (grind (arith, open_best h t, exceeds_all (greatest_nonce net h (dev_eui t)) (nonce t).0))

-- ---- a join that is accepted

-- the session of the last opening has a counter
active_counts : (os : List Opening) → IfSome (active_by os) (λ n. is_some (counter_by os n) ≡ true)
active_counts [] = tt
active_counts (o ∷ os) = grind (arith, nat_tests, active_counts os)

-- a number other than that of the next session
other_number : (h : List Entry) (eui : DevEui) (n : ℕ) → IsSome (session_join h eui n) → (n == next_session h eui) ≡ false
other_number h eui n keyed = grind (arith, nat_tests, session_join-next h eui)

sessions_joined : (net : Network) (h : List Entry) → IsLegal net h → (eui : DevEui) (a : Acceptance) → a.session ≡ next_session h eui →
    sessions_by (acceptances h eui ++ a ∷ []) (openings h eui) (session_round h eui) (closings h eui)
    ≡ filter (λ s. is_some s.greatest_counter) (sessions_by (acceptances h eui) (openings h eui) (session_round h eui) (closings h eui)) ++ new_session (next_session h eui) a.join_ans ∷ []
sessions_joined net h legal eui a number =
    let accepted : List Acceptance = acceptances h eui in
    let os : List Opening = openings h eui in
    let rs : ℕ → ℕ = session_round h eui in
    let cs : List Closing = closings h eui in
    let new : ℕ = next_session h eui in
    let facts : SessionFacts h = session_facts net h legal in
    let none = session_join-next h eui in
    let no_opening = none_of_session (session_join h eui) (λ (o : Opening). o.window.session) new none os (facts.of_openings eui) in
    let no_closing = none_of_session (session_join h eui) (λ (c : Closing). c.window.session) new none cs (facts.of_closings eui) in
    let now : session_by (accepted ++ a ∷ []) os rs cs new ≡ Some (new_session new a.join_ans) = grind (arith, nat_tests, join-push accepted a new, none, no_opening, no_closing) in
    let keyed = last-has (λ (o : Opening). IsSome (session_join h eui o.window.session)) os (facts.of_openings eui) in
    let active : IfSome (active_by os) (λ x. ((x == new) ≡ false) × Counts true (session_by accepted os rs cs x)) = grind (arith, keyed, other_number h eui, active_counts os) in
    let newest : IfSome (newest_by accepted) (λ y. (option_map (λ x. x == y) (active_by os) ≡ Some true) ⊎ Counts false (session_by accepted os rs cs y)) = grind (arith, facts.newest eui) in
    rw (last-push accepted a)
    (ap (λ n. filter_map (session_by (accepted ++ a ∷ []) os rs cs) (first_and_other (active_by os) (Some n))) number
    ∙ joined (session_by accepted os rs cs) (session_by (accepted ++ a ∷ []) os rs cs) new (new_session new a.join_ans) apart_from now (active_by os) (newest_by accepted) active newest)
  where
    apart_from : (n : ℕ) → (n == next_session h eui) ≡ false → session_by (acceptances h eui) (openings h eui) (session_round h eui) (closings h eui) n ≡ session_by (acceptances h eui ++ a ∷ []) (openings h eui) (session_round h eui) (closings h eui) n
    apart_from n differs = grind (arith, nat_tests, join-push (acceptances h eui) a n)

pub join_accepted : (net : Network) (h : List Entry) → IsLegal net h → (number : ℕ) (t : Ticket) (join : JoinAns) (heard : Heard) → Exceeds (greatest_nonce net h (dev_eui t)) (nonce t).0 →
    let decision : AnswerDecision = answer.Accepted (next_session h (dev_eui t)) heard in
    with_reply decision t (outcome.Success join) (device_record net h (dev_eui t)) ≡ device_record net (h ++ entry_of number (call.JoinReply t (outcome.Success join)) (answer_decision_reply net t decision) ∷ []) (dev_eui t)
join_accepted net h legal number t join heard above =
    let eui : DevEui = dev_eui t in
    let new : ℕ = next_session h eui in
    let decision : AnswerDecision = answer.Accepted new heard in
    let e : Entry = entry_of number (call.JoinReply t (outcome.Success join)) (answer_decision_reply net t decision) in
    let a : Acceptance = record { eui = eui; session = new; ticket = t; join_ans = join } in
    let accepted_now : acceptances (h ++ e ∷ []) eui ≡ acceptances h eui ++ a ∷ [] = acceptances-push h e eui ∙ one_added (λ (x : Acceptance). same_device x.eui eui) (acceptances h eui) a (same_device-refl eui) in
    let os : openings (h ++ e ∷ []) eui ≡ openings h eui = openings-push h e eui ∙ append-nil (openings h eui) in
    let cs : closings (h ++ e ∷ []) eui ≡ closings h eui = closings-push h e eui ∙ append-nil (closings h eui) in
    let rs : session_round (h ++ e ∷ []) eui ≡ session_round h eui = rounds-stay h e eui os tt in
    let tickets = tickets_ended net h legal e t refl refl refl in
    let sessions = sessions_joined net h legal eui a refl in
    let nonces : greater (last_nonce net eui) (maximum (map (λ (x : Acceptance). (nonce x.ticket).0) (acceptances h eui ++ a ∷ []))) ≡ Some (nonce t).0 =
    simp (map-append, maximum-push, greater-assoc) (exceeds_greater (greatest_nonce net h eui) (nonce t).0 above) in
    let numbers : unwrap_or (maximum (map (λ (x : Acceptance). x.session) (acceptances h eui ++ a ∷ []))) 0 + 1 ≡ new + 1 = grind (arith, map-append, maximum-push) in
    cc (record_said net h eui, record_said net (h ++ e ∷ []) eui)

-- ---- any answer

after_answer : (net : Network) (h : List Entry) → IsLegal net h → (number : ℕ) (t : Ticket) (outcome : Outcome) (decision : AnswerDecision) → DecisionFits net h t outcome decision →
    with_reply decision t outcome (device_record net h (dev_eui t)) ≡ device_record net (h ++ entry_of number (call.JoinReply t outcome) (answer_decision_reply net t decision) ∷ []) (dev_eui t)
after_answer net h legal number t outcome answer.NoTicket fits =
    let none : ticket_in (said_of net h (dev_eui t)) t ≡ None = grind (arith, ticket_said net h t) in
    let same : without t (tickets_said h (dev_eui t)) ≡ tickets_said h (dev_eui t) = without_absent t (tickets_said h (dev_eui t)) none in
    cc (record_said net h (dev_eui t), record_stays net h (entry_of number (call.JoinReply t outcome) reply.NoTicket) (dev_eui t) refl)
after_answer net h legal number t outcome answer.Refused fits =
    let e : Entry = entry_of number (call.JoinReply t outcome) reply.JoinRefused in
    cc (record_said net h (dev_eui t), sessions_keep net h e (dev_eui t) tt tt tt tt, tickets_ended net h legal e t refl refl refl)
after_answer net h legal number t outcome (answer.Stale greatest) fits =
    let e : Entry = entry_of number (call.JoinReply t outcome) (reply.JoinStale greatest) in
    cc (record_said net h (dev_eui t), sessions_keep net h e (dev_eui t) tt tt tt tt, tickets_ended net h legal e t refl refl refl)
after_answer net h legal number t outcome.Failed (answer.Accepted session heard) fits = absurd (false≢true (sym fits.0))
after_answer net h legal number t (outcome.Success join) (answer.Accepted session heard) fits = rw fits.1 (join_accepted net h legal number t join heard fits.2)

pub answers_agree : (net : Network) (h : List Entry) → AnswersAgree net h
answers_agree net h = record {
  replies = λ t outcome. answer_replies net h t outcome;
  copies = λ t outcome session heard is. accepted_best net h t outcome session heard is;
  records = λ legal number t outcome.
      after_answer net h legal number t outcome (answer_decision (device_record net h (dev_eui t)) t outcome) (decision_fits net h t outcome)
      ∙ ap (λ r. device_record net (h ++ entry_of number (call.JoinReply t outcome) r ∷ []) (dev_eui t)) (answer_replies net h t outcome);
}
