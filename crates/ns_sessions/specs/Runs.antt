-- Runs of calls on the state of one device, from the first join on.
use Rattle.ns_secure.specs.Counter.{Exceeds}
use Rattle.std.specs.List.{AllByRecursion}
use Rattle.std.specs.Prelude.{ℕ, ◌+◌, ◌≤◌, Bool, true, false, ◌&&◌, List, [], ◌∷◌, ◌++◌, Option, Some, None, option_to_list, if◌then◌else◌}
use Rattle.ns_types.specs.declared.heard.Heard.{Heard}
use Rattle.ns_types.specs.declared.ticket.Ticket.{Ticket}
use Rattle.ns_types.specs.Ticket.{nonce}
use Rattle.ns_calls.specs.declared.call.Outcome.{Outcome}
use Rattle.ns_calls.specs.History.{same_ticket}
use Rattle.ns_calls.specs.Laws.{Rises}
use Rattle.ns_sessions.specs.declared.decision.JoinDecision.{JoinDecision}
use Rattle.ns_sessions.specs.declared.decision.JoinDecision.TheVariants as join
use Rattle.ns_sessions.specs.declared.decision.AnswerDecision.{AnswerDecision}
use Rattle.ns_sessions.specs.declared.decision.AnswerDecision.TheVariants as answer
use Rattle.ns_sessions.specs.Record.{DeviceRecord, no_joins, with_uplink, with_round, with_ack, join_decision, with_join, answer_decision, with_reply}

-- the calls that change a state
pub data StateCall : Type 0 where
  Ask : Ticket → Heard → StateCall
  Answer : Ticket → Outcome → StateCall
  Open : ℕ → ℕ → StateCall
  OpenAgain : ℕ → ℕ → StateCall
  NextAck : ℕ → StateCall

-- what a call leaves
abbrev pub after_call : StateCall → DeviceRecord → DeviceRecord
after_call (Ask t heard) r = with_join (join_decision r t) t heard r
after_call (Answer t outcome) r = with_reply (answer_decision r t outcome) t outcome r
after_call (Open session counter) r = with_uplink session counter r
after_call (OpenAgain session round) r = with_round session round r
after_call (NextAck session) r = with_ack session r

-- the nonce of a join that is accepted
abbrev pub nonce_in : AnswerDecision → Ticket → Option ℕ
nonce_in (answer.Accepted session heard) t = Some (nonce t).0
nonce_in _ t = None

abbrev pub accepted_nonce : StateCall → DeviceRecord → Option ℕ
accepted_nonce (Answer t outcome) r = nonce_in (answer_decision r t outcome) t
accepted_nonce _ r = None

-- the nonces that a run accepts, in order
abbrev pub accepted_nonces : DeviceRecord → List StateCall → List ℕ
accepted_nonces r [] = []
accepted_nonces r (c ∷ calls) = option_to_list (accepted_nonce c r) ++ accepted_nonces (after_call c r) calls

-- whether a join server is to be asked, and whether an open join is answered
abbrev pub is_asked : JoinDecision → Bool
is_asked join.Ask = true
is_asked _ = false

abbrev pub is_answered : AnswerDecision → Bool
is_answered answer.NoTicket = false
is_answered _ = true

abbrev pub asks : Ticket → StateCall → DeviceRecord → Bool
asks t (Ask u heard) r = same_ticket t u && is_asked (join_decision r u)
asks t _ r = false

abbrev pub answers : Ticket → StateCall → DeviceRecord → Bool
answers t (Answer u outcome) r = same_ticket t u && is_answered (answer_decision r u outcome)
answers t _ r = false

-- how often a run asks for a ticket, and how often it answers it
abbrev pub times_asked : Ticket → DeviceRecord → List StateCall → ℕ
times_asked t r [] = 0
times_asked t r (c ∷ calls) = (if asks t c r then 1 else 0) + times_asked t (after_call c r) calls

abbrev pub times_answered : Ticket → DeviceRecord → List StateCall → ℕ
times_answered t r [] = 0
times_answered t r (c ∷ calls) = (if answers t c r then 1 else 0) + times_answered t (after_call c r) calls

-- of every run of a device with this last nonce: the accepted nonces are above that and rise, and a ticket is answered at most once for
-- each time it was asked for
pub record JoinsInTurn (last : Option ℕ) (calls : List StateCall) : Type 0 where
  pub nonces_above : AllByRecursion (λ n. Exceeds last n) (accepted_nonces (no_joins last) calls)
  pub nonces_rise : Rises (accepted_nonces (no_joins last) calls)
  pub answered_once : (t : Ticket) → times_answered t (no_joins last) calls ≤ times_asked t (no_joins last) calls
