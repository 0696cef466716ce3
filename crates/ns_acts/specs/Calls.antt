-- The call that an act makes.
use Rattle.std.specs.Prelude.{Result, Ok, Err}
use Rattle.ns_types.specs.Ticket.{transaction}
use Rattle.ns_calls.specs.declared.call.JoinAns.{JoinAns}
use Rattle.ns_calls.specs.declared.call.Outcome.{Outcome}
use Rattle.ns_calls.specs.declared.call.Outcome.TheVariants.{Success, Failed}
use Rattle.ns_calls.specs.declared.call.Call.{Call}
use Rattle.ns_calls.specs.declared.call.Call.TheVariants as call
use Rattle.ns_calls.specs.Steps.{Refusal, datagram_call}
use Rattle.ns_exchange.specs.declared.answer.AnsFault.{AnsFault}
use Rattle.ns_joinwire.specs.JoinAns.{joinans}
use Rattle.ns_acts.specs.declared.step.Act.{Act}
use Rattle.ns_acts.specs.declared.step.Act.TheVariants.{Datagram, Answer, Lost, Close}

-- how asking a join server ended, by what its body is read as
abbrev pub outcome_of : Result JoinAns AnsFault → Outcome
outcome_of (Ok join) = Success join
outcome_of (Err fault) = Failed

-- the call of an act, or why it makes none
abbrev pub call_of : Act → Result Call Refusal
call_of (Datagram bytes) = datagram_call bytes
call_of (Answer ticket body) = Ok (call.JoinReply ticket (outcome_of (joinans body (transaction ticket))))
call_of (Lost ticket) = Ok (call.JoinReply ticket Failed)
call_of (Close window) = Ok (call.Close window)
