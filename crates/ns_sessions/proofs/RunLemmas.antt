-- Runs of calls on the state of one device.
use Rattle.std.proofs.Common.{◌≡◌, ℕ, ◌+◌, ◌<◌, ◌≤◌, Bool, true, ◌&&◌, cond, List, [], ◌∷◌, ◌++◌, Option, None, Some, option_to_list, refl, arith}
use Rattle.std.specs.Prelude.{is_some}
use Rattle.std.specs.List.{AllByRecursion}
use Rattle.ns_types.specs.declared.heard.Heard.{Heard}
use Rattle.ns_types.specs.declared.ticket.Ticket.{Ticket}
use Rattle.ns_types.specs.Ticket.{nonce}
use Rattle.ns_secure.specs.Counter.{Exceeds}
use Rattle.ns_calls.specs.declared.call.Outcome.{Outcome}
use Rattle.ns_calls.specs.History.{same_ticket}
use Rattle.ns_calls.specs.Reply.{is_failed}
use Rattle.ns_calls.specs.Laws.{Rises}
use Rattle.ns_calls.proofs.Lists.{All-weaker}
use Rattle.ns_calls.proofs.TicketLemmas.{same_ticket-eq}
use Rattle.ns_sessions.specs.declared.ticket.OpenTicket.{OpenTicket}
use Rattle.ns_sessions.specs.declared.decision.JoinDecision.{JoinDecision}
use Rattle.ns_sessions.specs.declared.decision.AnswerDecision.{AnswerDecision}
use Rattle.ns_sessions.specs.Record.{DeviceRecord, no_joins, ticket_among, ticket_in, nonce_at_or_above, one_copy, tickets_after_copy, without, join_decision, with_join, answer_decision, with_reply}
use Rattle.ns_sessions.specs.Runs.{StateCall, Ask, Answer, after_call, nonce_in, accepted_nonce, accepted_nonces, is_asked, is_answered, asks, answers, times_asked, times_answered, JoinsInTurn}
use Rattle.ns_calls.proofs.JoinLemmas.{exceeds_all}
use Rattle.ns_sessions.proofs.JoinAnswers.{answer_decision_by}

-- ---- nonces

-- an answer leaves the greatest nonce, or its own nonce is the greatest from then on, and was above it
abbrev NextNonce : Option ℕ → Option ℕ → Option ℕ → Type 0
NextNonce None before after = after ≡ before
NextNonce (Some n) before after = (after ≡ Some n) × Exceeds before n

answer_nonce : (r : DeviceRecord) (t : Ticket) (o : Outcome) (found : Option OpenTicket) (stale : Option ℕ) → nonce_at_or_above r t ≡ stale →
    NextNonce (nonce_in (answer_decision_by t found (is_failed o) stale r.next_session) t) r.greatest_nonce (with_reply (answer_decision_by t found (is_failed o) stale r.next_session) t o r).greatest_nonce
answer_nonce r t o found stale is = grind (arith, exceeds_all r.greatest_nonce (nonce t).0)

next_nonce : (c : StateCall) (r : DeviceRecord) → NextNonce (accepted_nonce c r) r.greatest_nonce (after_call c r).greatest_nonce
next_nonce (Answer t o) r = answer_nonce r t o (ticket_in r t) (nonce_at_or_above r t) refl
next_nonce _ r = refl

exceeds_more : (greatest : Option ℕ) (n m : ℕ) → Exceeds greatest n → n < m → Exceeds greatest m
exceeds_more greatest n m above more = grind arith

nonces_from : (r : DeviceRecord) (calls : List StateCall) → AllByRecursion (λ n. Exceeds r.greatest_nonce n) (accepted_nonces r calls) × Rises (accepted_nonces r calls)
nonces_from r [] = (tt, tt)
nonces_from r (c ∷ calls) = step (accepted_nonce c r) (next_nonce c r) (nonces_from (after_call c r) calls)
  where
    step : (accepted : Option ℕ) → NextNonce accepted r.greatest_nonce (after_call c r).greatest_nonce →
        AllByRecursion (λ n. Exceeds (after_call c r).greatest_nonce n) (accepted_nonces (after_call c r) calls) × Rises (accepted_nonces (after_call c r) calls) →
        AllByRecursion (λ n. Exceeds r.greatest_nonce n) (option_to_list accepted ++ accepted_nonces (after_call c r) calls) × Rises (option_to_list accepted ++ accepted_nonces (after_call c r) calls)
    step None same rest = (rw same at rest.0, rest.1)
    step (Some m) new rest =
        let later : AllByRecursion (λ n. m < n) (accepted_nonces (after_call c r) calls) = rw new.0 at rest.0 in
        let weaker = λ (n : ℕ) (more : m < n). exceeds_more r.greatest_nonce m n new.1 more in
        ((new.1, All-weaker (λ n. m < n) (λ n. Exceeds r.greatest_nonce n) weaker (accepted_nonces (after_call c r) calls) later), (later, rest.1))

-- ---- how often a ticket is asked for, and how often it is answered

-- how many open tickets are this one
abbrev open_count : Ticket → List OpenTicket → ℕ
open_count t [] = 0
open_count t (o ∷ os) = cond (same_ticket t o.ticket) 1 0 + open_count t os

count_one : (t u : Ticket) (heard : Heard) (os : List OpenTicket) → open_count t (os ++ one_copy u heard ∷ []) ≡ open_count t os + cond (same_ticket t u) 1 0
count_one t u heard [] = grind arith
count_one t u heard (o ∷ os) = grind (arith, count_one t u heard os)

count_copied : (t u : Ticket) (heard : Heard) (os : List OpenTicket) → open_count t (tickets_after_copy u heard os) ≡ open_count t os
count_copied t u heard [] = refl
count_copied t u heard (o ∷ os) = grind (arith, count_copied t u heard os)

-- a ticket that is there is one fewer without it
count_without : (t u : Ticket) (os : List OpenTicket) → is_some (ticket_among u os) ≡ true → cond (same_ticket t u) 1 0 + open_count t (without u os) ≤ open_count t os
count_without t u [] found = absurd (cc found)
count_without t u (o ∷ os) found = grind (arith, same_ticket-eq u o.ticket, count_without t u os)

count_less : (t u : Ticket) (os : List OpenTicket) → open_count t (without u os) ≤ open_count t os
count_less t u [] = omega arith
count_less t u (o ∷ os) = grind (arith, count_less t u os)

-- what a call adds to the answers is at most what it adds to what is asked for, and what it takes out of the open tickets
abbrev InStep : Ticket → StateCall → DeviceRecord → Type 0
InStep t c r = cond (answers t c r) 1 0 + open_count t (after_call c r).tickets ≤ cond (asks t c r) 1 0 + open_count t r.tickets

ask_in_step : (t u : Ticket) (heard : Heard) (r : DeviceRecord) (decision : JoinDecision) → open_count t (with_join decision u heard r).tickets ≤ cond (same_ticket t u && is_asked decision) 1 0 + open_count t r.tickets
ask_in_step t u heard r decision = grind (arith, count_one t u heard r.tickets, count_copied t u heard r.tickets)

-- an answer other than NoTicket is to an open ticket
answered_open : (t : Ticket) (found : Option OpenTicket) (o : Outcome) (stale : Option ℕ) (next : ℕ) → is_answered (answer_decision_by t found (is_failed o) stale next) ≡ true → is_some found ≡ true
answered_open t found o stale next is = grind arith

-- an answer takes its ticket out of the open tickets
tickets_after : (decision : AnswerDecision) (t : Ticket) (o : Outcome) (r : DeviceRecord) → (with_reply decision t o r).tickets ≡ without t r.tickets
tickets_after decision t o r = grind arith

answer_in_step : (t u : Ticket) (o : Outcome) (r : DeviceRecord) (b c : Bool) → same_ticket t u ≡ b → is_answered (answer_decision r u o) ≡ c →
    cond (b && c) 1 0 + open_count t (without u r.tickets) ≤ 0 + open_count t r.tickets
answer_in_step t u o r b c same is =
    let opens = answered_open u (ticket_in r u) o (nonce_at_or_above r u) r.next_session in
    grind (arith, opens, count_without t u r.tickets, count_less t u r.tickets)

in_step : (t : Ticket) (c : StateCall) (r : DeviceRecord) → InStep t c r
in_step t (Ask u heard) r = omega (arith, ask_in_step t u heard r (join_decision r u))
in_step t (Answer u o) r = rw (tickets_after (answer_decision r u o) u o r) (answer_in_step t u o r (same_ticket t u) (is_answered (answer_decision r u o)) refl refl)
in_step t _ r = omega arith

answered_from : (t : Ticket) (r : DeviceRecord) (calls : List StateCall) → times_answered t r calls ≤ times_asked t r calls + open_count t r.tickets
answered_from t r [] = omega arith
answered_from t r (c ∷ calls) = omega (arith, in_step t c r, answered_from t (after_call c r) calls)

pub joins_in_turn : (last : Option ℕ) (calls : List StateCall) → JoinsInTurn last calls
joins_in_turn last calls = record {
  nonces_above = (nonces_from (no_joins last) calls).0;
  nonces_rise = (nonces_from (no_joins last) calls).1;
  answered_once = λ t. (let most = answered_from t (no_joins last) calls in omega (arith, most));
}
