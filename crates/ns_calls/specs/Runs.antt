-- The plain server's answers to a list of calls.
use Rattle.std.specs.Prelude.{List, [], ◌∷◌, length}
use Rattle.ns_roster.specs.Network.{Network}
use Rattle.ns_calls.specs.declared.call.Call.{Call}
use Rattle.ns_calls.specs.declared.call.Entry.{Entry}
use Rattle.ns_calls.specs.declared.answer.Answer.{Answer}
use Rattle.ns_calls.specs.Out.{answer}
use Rattle.ns_calls.specs.Legal.{with_call}

-- the answers to calls, one after the other, after the entries before them
abbrev pub answers_after : Network → List Entry → List Call → List Answer
answers_after net before [] = []
answers_after net before (call ∷ calls) = answer net before call ∷ answers_after net (with_call net before (length before) call) calls

abbrev pub answers_of : Network → List Call → List Answer
answers_of net calls = answers_after net [] calls

-- the history that the calls leave
abbrev pub history_after : Network → List Entry → List Call → List Entry
history_after net before [] = before
history_after net before (call ∷ calls) = history_after net (with_call net before (length before) call) calls

abbrev pub history_of : Network → List Call → List Entry
history_of net calls = history_after net [] calls
